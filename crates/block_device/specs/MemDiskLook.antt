-- What contracts see of a memory disk. Public clauses cite this.
use Rattle.std.specs.Prelude.{ℕ, zero, suc, List, [], ◌∷◌, map, refl}
use Rattle.std.proofs.Math.Nat.{not-suc-le-zero, le_of_suc-le-suc}
use Rattle.block_device.specs.DiskSeen.{AreBlocks, HasBlocks}
use Rattle.block_device.specs.MemSeen.{MemDiskSeen, disk_of}
use Rattle.block_device.specs.declared.block.Block.{Block}
use Rattle.block_device.specs.declared.mem_disk.MemDisk.{MemDisk}

-- the bytes of blocks
abbrev pub blocks_seen : List Block → List (List ℕ)
blocks_seen blocks = map (λ block. block.bytes) blocks

-- a memory disk as its blocks, its calls and their counts
abbrev pub look : MemDisk → MemDiskSeen
look d = record { blocks = blocks_seen d.blocks.items; calls = d.calls; reads = d.reads; writes = d.writes }

-- Blocks have 4096 bytes each.
pub blocks_seen_are_blocks : (blocks : List Block) → AreBlocks (blocks_seen blocks)
blocks_seen_are_blocks [] block inside = absurd (not-suc-le-zero inside)
blocks_seen_are_blocks (b ∷ blocks) zero inside = b.full
blocks_seen_are_blocks (b ∷ blocks) (suc block) inside = blocks_seen_are_blocks blocks block (le_of_suc-le-suc inside)

-- The content of a memory disk is blocks of 4096 bytes.
pub look_has_blocks : (d : MemDisk) → HasBlocks (disk_of (look d)).content (disk_of (look d)).size
look_has_blocks d = (refl, blocks_seen_are_blocks d.blocks.items)
