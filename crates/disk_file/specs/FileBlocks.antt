-- The blocks of a file, and their laws, which the disk's own law cites. Public clauses cite the first two.
use Rattle.std.proofs.Common.{ℕ, ◌≡◌, ◌+◌, ◌*◌, ◌<◌, ◌≤◌, ◌∙◌, refl, sym, inl, inr, subst, arith, List, [], length, take, drop, get_or, map, Option, Some, None}
use Rattle.std.specs.Prelude.{option_map, IfSome}
use Rattle.std.specs.List.{range_with_len}
use Rattle.std.proofs.lemmas.Bool.{cases_lt}
use Rattle.std.proofs.lemmas.List.{get_or-take, get_or-drop, get_or_past, length-take, length-drop}
use Rattle.std.proofs.lemmas.List.FromFn.{get_or-map-range_with_len, length-map-range_with_len}
use Rattle.block_device.specs.DiskSeen.{AreBlocks, HasBlocks, IsBlock}
use Rattle.disk_file.specs.FileBytes.{AreOctets}

-- A block of a file is its 4096 bytes from 4096 times the block's number on.
abbrev pub block_of_file : List ℕ → ℕ → List ℕ
block_of_file bytes block = take 4096 (drop (4096 * block) bytes)

-- the first blocks of a file, so many
abbrev pub blocks_of_file : ℕ → List ℕ → List (List ℕ)
blocks_of_file size bytes = map (block_of_file bytes) (range_with_len 0 size)

-- The first blocks of a file, so many, are so many.
pub length-blocks_of_file : (size : ℕ) (bytes : List ℕ) → length (blocks_of_file size bytes) ≡ size
length-blocks_of_file size bytes = length-map-range_with_len (block_of_file bytes) 0 size

-- Among the first blocks of a file each block stands at its number.
pub get_or-blocks_of_file : (size : ℕ) (bytes : List ℕ) (block : ℕ) → block < size → get_or (blocks_of_file size bytes) block [] ≡ block_of_file bytes block
get_or-blocks_of_file size bytes block inside = get_or-map-range_with_len (block_of_file bytes) 0 size block block [] inside (omega arith)

-- A block that ends within the file has 4096 bytes.
pub length-block_of_file : (bytes : List ℕ) (size block : ℕ) → 4096 * size ≤ length bytes → block < size → length (block_of_file bytes block) ≡ 4096
length-block_of_file bytes size block within inside = omega (arith, within, inside, length-take 4096 (drop (4096 * block) bytes), length-drop (4096 * block) bytes)

-- The bytes of a whole block of a file are below 256, where all of the file's are.
block_of_file-AreOctets : (bytes : List ℕ) (block : ℕ) → AreOctets bytes → length (block_of_file bytes block) ≡ 4096 → AreOctets (block_of_file bytes block)
block_of_file-AreOctets bytes block are size at =
    elim (cases_lt at 4096) [
      | inl below ↦
          let same : get_or (block_of_file bytes block) at 0 ≡ get_or bytes (4096 * block + at) 0 = get_or-take 4096 (drop (4096 * block) bytes) at 0 below ∙ get_or-drop (4096 * block) bytes at 0 in
          omega (arith, same, are (4096 * block + at))
      | inr above ↦
          let past : get_or (block_of_file bytes block) at 0 ≡ 0 = get_or_past (block_of_file bytes block) at 0 (omega (arith, size, above)) in
          omega (arith, past)
    ]

-- A block that ends within a file of bytes below 256 is a block of a disk.
pub block_of_file-IsBlock : (bytes : List ℕ) (size block : ℕ) → AreOctets bytes → 4096 * size ≤ length bytes → block < size → IsBlock (block_of_file bytes block)
block_of_file-IsBlock bytes size block are within inside =
    let full = length-block_of_file bytes size block within inside in
    (full, block_of_file-AreOctets bytes block are full)

-- The first blocks of a file of bytes below 256 are blocks of a disk, where it is long enough.
pub blocks_of_file-AreBlocks : (bytes : List ℕ) (size : ℕ) → AreOctets bytes → 4096 * size ≤ length bytes → AreBlocks (blocks_of_file size bytes)
blocks_of_file-AreBlocks bytes size are within block inside =
    let below : block < size = omega (arith, inside, length-blocks_of_file size bytes) in
    subst IsBlock (sym (get_or-blocks_of_file size bytes block below)) (block_of_file-IsBlock bytes size block are within below)

-- The first blocks of a file are blocks of 4096 bytes, where it is long enough and tells.
pub file_has_blocks : (bytes : Option (List ℕ)) (size : ℕ) → IfSome bytes AreOctets → ((all : List ℕ) → bytes ≡ Some all → 4096 * size ≤ length all) → HasBlocks (option_map (blocks_of_file size) bytes) size
file_has_blocks None size are within = tt
file_has_blocks (Some bytes) size are within = (length-blocks_of_file size bytes, blocks_of_file-AreBlocks bytes size are (within bytes refl))
