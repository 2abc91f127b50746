use Rattle.std.proofs.Common.{◌≡◌, map, drop}
use Rattle.std.specs.Map.{lookup}
use Rattle.std.specs.Str.{bytes_eq}
use Rattle.block_device.specs.MemDiskLook.{blocks_seen}
use Rattle.block_device.specs.MemRackSeen.{kept_under}
use Rattle.block_device.proofs.mem_rack.MemRack.kept_under.Given as goal

abbrev pub invariant-loop-disk : goal.invariant-loop-disk
invariant-loop-disk l =
    lookup (bytes_eq l.path) (map (λ disk. (disk.path, blocks_seen disk.blocks.items)) (drop l.disk-index l.disk-items)) ≡ kept_under l.fn.self l.path
