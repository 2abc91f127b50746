use Rattle.std.proofs.Common.{◌≡◌, map, take}
use Rattle.stored_files.specs.Written.{numbered_seen}
use Rattle.stored_files.specs.Written.{disk_sizes}
use Rattle.stored_files.proofs.tracing.sizes_of.Given as goal

abbrev pub invariant-loop-disk : goal.invariant-loop-disk
invariant-loop-disk g l = l.sizes.items ≡ disk_sizes (map (numbered_seen g.D.Disk.seen) (take l.disk-index l.disks))
