-- What contracts see of a disk that begins blank. Inside: no clause of `run` cites this.
use Rattle.std.specs.Prelude.{ℕ, zero, suc, ◌+◌, ◌-◌, ◌≡◌, ◌<◌, ◌≤◌, List, [], ◌∷◌, ◌++◌, length, replicate, map, slice_index, slice_index_or, Option, Some, None}
use Rattle.std.proofs.Common.{ap, ◌∙◌, subst}
use Rattle.std.proofs.lemmas.List.{length-append, length-map, length-replicate}
use Rattle.std.proofs.Math.Nat.{not-suc-le-zero, le_of_suc-le-suc, le-add_right, add-sub_of_le}
use Rattle.disk_file.specs.block_device.DiskSeen.{AreBlocks, DiskSeen, HasBlocks, IsBlock, one_disk}
use Rattle.disk_file.specs.block_device.MemSeen.{blank_blocks}
use Rattle.disk_file.specs.block_device.declared.block.Block.{Block}
use Rattle.sunvm.specs.declared.blank_disk.BlankDisk.{BlankDisk}

-- The bytes of the block at a place of those written; zeros past them.
abbrev pub written_at : List Block → ℕ → List ℕ
written_at [] place = replicate 4096 0
written_at (b ∷ written) zero = b.bytes
written_at (b ∷ written) (suc place) = written_at written place

-- The bytes of a block by its place among those written: zeros where it wasn't written.
abbrev pub block_shown : List Block → Option ℕ → List ℕ
block_shown written None = replicate 4096 0
block_shown written (Some place) = written_at written place

-- The blocks of a disk that begins blank: those of each place in turn, and zeros behind them up to
-- its size.
abbrev pub blank_content : List (Option ℕ) → List Block → ℕ → List (List ℕ)
blank_content places written size = map (block_shown written) places ++ blank_blocks (size - length places)

-- What a disk in memory tells: its blocks, its size, its calls, and no fault.
abbrev pub blank_disk_seen : BlankDisk → DiskSeen
blank_disk_seen d = record { content = Some (blank_content d.places.items d.written.items d.size); size = d.size; kind = one_disk; faults = 0; calls = d.calls }

-- A disk of so many blocks of zeros, of which no call was made yet.
abbrev pub fresh_blank_disk : ℕ → DiskSeen
fresh_blank_disk blocks = record { content = Some (blank_blocks blocks); size = blocks; kind = one_disk; faults = 0; calls = 0 }

-- Each byte of a row of zeros is below 256.
pub zeros_are_bytes : (count at : ℕ) → slice_index (replicate count 0) at < 256
zeros_are_bytes zero at = le-add_right 1 255
zeros_are_bytes (suc count) zero = le-add_right 1 255
zeros_are_bytes (suc count) (suc at) = zeros_are_bytes count at

-- 4096 zeros are a block.
pub zeros_are_block : IsBlock (replicate 4096 0)
zeros_are_block = (length-replicate {A = ℕ} 4096 0, zeros_are_bytes 4096)

-- The bytes at each place of blocks that were written are a block.
pub bytes_are_block : (written : List Block) (place : ℕ) → IsBlock (written_at written place)
bytes_are_block [] place = zeros_are_block
bytes_are_block (b ∷ written) zero = b.full
bytes_are_block (b ∷ written) (suc place) = bytes_are_block written place

-- The bytes shown by a place among written blocks, or by none, are a block.
pub block_is_block : (written : List Block) (o : Option ℕ) → IsBlock (block_shown written o)
block_is_block written None = zeros_are_block
block_is_block written (Some place) = bytes_are_block written place

-- Each block that a blank disk shows is a block, with blank ones behind those of places.
pub content_is_blocks : (places : List (Option ℕ)) (written : List Block) (blank : ℕ) → AreBlocks (map (block_shown written) places ++ blank_blocks blank)
content_is_blocks [] written zero block inside = absurd (not-suc-le-zero inside)
content_is_blocks [] written (suc blank) zero inside = zeros_are_block
content_is_blocks [] written (suc blank) (suc block) inside = content_is_blocks [] written blank block (le_of_suc-le-suc inside)
content_is_blocks (o ∷ places) written blank zero inside = block_is_block written o
content_is_blocks (o ∷ places) written blank (suc block) inside = content_is_blocks places written blank block (le_of_suc-le-suc inside)

-- A blank disk with no more places than blocks shows as many blocks as it has.
pub content_length : (places : List (Option ℕ)) (written : List Block) (size : ℕ) → length places ≤ size → length (blank_content places written size) ≡ size
content_length places written size few =
    length-append (map (block_shown written) places) (blank_blocks (size - length places))
    ∙ ap (λ (count : ℕ). count + length (blank_blocks (size - length places))) (length-map places (block_shown written))
    ∙ ap (λ (count : ℕ). length places + count) (length-replicate (size - length places) (replicate 4096 0))
    ∙ add-sub_of_le few

-- A disk in memory shows as many blocks of 4096 bytes as it has.
pub blank_disk_has_blocks : (d : BlankDisk) → HasBlocks (blank_disk_seen d).content (blank_disk_seen d).size
blank_disk_has_blocks d = (content_length d.places.items d.written.items d.size d.few, content_is_blocks d.places.items d.written.items (d.size - length d.places.items))
