-- The fields of block 0. Public clauses cite this.
use Rattle.std.specs.Prelude.{ℕ, ◌==◌, ◌+◌, ◌*◌, ◌&&◌, not, Bool, true, false, List, [], ◌∷◌, slice_range, take_while, map, if◌then◌else◌, codes}
use Rattle.std.specs.List.{list_all, range_with_len}
use Rattle.std.specs.Int.{w32, from_be_bytes}
use Rattle.vnode_files.specs.declared.extent.Extent.{Extent}
use Rattle.vnode_files.specs.declared.vnode.FileInfo.{FileInfo}
use Rattle.volume_format.specs.Table.{TableSeen}

-- The number in the four bytes from a place on, the most significant byte first.
unfoldable pub number_at : List ℕ → ℕ → ℕ
number_at block at = from_be_bytes w32 (slice_range block at (at + 4))

-- Whether two lists of bytes are the same.
unfoldable pub are_same : List ℕ → List ℕ → Bool
are_same [] [] = true
are_same [] (y ∷ ys) = false
are_same (x ∷ xs) [] = false
are_same (x ∷ xs) (y ∷ ys) = (x == y) && are_same xs ys

-- Whether all bytes are zeros.
unfoldable pub are_zeros : List ℕ → Bool
are_zeros bytes = list_all (λ b. b == 0) bytes

-- Whether the first eight bytes of a block are the letters that begin a volume.
abbrev pub has_magic : List ℕ → Bool
has_magic block = are_same (slice_range block 0 8) (codes "SUNVMVOL")

-- The version of the layout, in the header.
abbrev pub version : List ℕ → ℕ
version block = number_at block 8

-- The number of files, in the header.
abbrev pub file_count : List ℕ → ℕ
file_count block = number_at block 16

-- The byte at which the entry of file i begins.
abbrev pub entry_start : ℕ → ℕ
entry_start i = 32 + 32 * i

-- The 16 bytes of file i's entry that hold its name and zeros behind it.
abbrev pub name_field : List ℕ → ℕ → List ℕ
name_field block i = slice_range block (entry_start i) (entry_start i + 16)

-- The bytes of a field up to its first zero.
abbrev pub text_before_zero : List ℕ → List ℕ
text_before_zero field = take_while (λ b. not (b == 0)) field

-- The name of file i.
abbrev pub name_of_file : List ℕ → ℕ → List ℕ
name_of_file block i = text_before_zero (name_field block i)

-- The length of file i in bytes.
abbrev pub length_of_file : List ℕ → ℕ → ℕ
length_of_file block i = number_at block (entry_start i + 16)

-- The mode of file i: 1 if it may be written, 0 if it may only be read.
abbrev pub mode_of_file : List ℕ → ℕ → ℕ
mode_of_file block i = number_at block (entry_start i + 28)

-- The number of extents in the table of extents, in the header of version 2.
abbrev pub extent_count : List ℕ → ℕ
extent_count block = number_at block 20

-- The byte at which extent j of version 2 stands in block 0.
abbrev pub extent_start : ℕ → ℕ
extent_start j = 2080 + 8 * j

-- Extent j of the table of extents, in version 2.
abbrev pub table_extent : List ℕ → ℕ → Extent
table_extent block j = record { start = number_at block (extent_start j); pages = number_at block (extent_start j + 4) }

-- The place of file i's first extent in the table of extents, in version 2.
abbrev pub first_extent : List ℕ → ℕ → ℕ
first_extent block i = number_at block (entry_start i + 20)

-- The number of extents of file i, in version 2.
abbrev pub extents_number : List ℕ → ℕ → ℕ
extents_number block i = number_at block (entry_start i + 24)

-- The one extent of file i, which stands in its entry, in version 1.
abbrev pub own_extent : List ℕ → ℕ → Extent
own_extent block i = record { start = number_at block (entry_start i + 20); pages = number_at block (entry_start i + 24) }

-- The extents of file i: in version 1 its own one, otherwise those of the table that its entry
-- names.
abbrev pub extents_of_file : List ℕ → ℕ → List Extent
extents_of_file block i =
    if version block == 1 then own_extent block i ∷ []
    else map (table_extent block) (range_with_len (first_extent block i) (extents_number block i))

-- File i, as its fields say.
abbrev pub file_in : List ℕ → ℕ → FileInfo
file_in block i = record {
  name = name_of_file block i;
  disk = 0;
  extents = extents_of_file block i;
  length = length_of_file block i;
  writable = mode_of_file block i == 1;
}

-- The table that a block's fields say, on a disk of so many blocks.
abbrev pub table_in : List ℕ → ℕ → TableSeen
table_in block blocks = record { blocks = blocks; entries = map (file_in block) (range_with_len 0 (file_count block)) }
