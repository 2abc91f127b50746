-- A table as the bytes of block 0, in version 2. Public clauses cite this.
use Rattle.std.specs.Prelude.{ℕ, ◌+◌, ◌-◌, List, ◌++◌, length, replicate, take, drop, codes, if◌then◌else◌}
use Rattle.std.specs.List.{flat_map, range_with_len}
use Rattle.std.specs.Int.{w32, to_be_bytes}
use Rattle.vnode_files.specs.declared.extent.Extent.{Extent}
use Rattle.vnode_files.specs.declared.vnode.FileInfo.{FileInfo}
use Rattle.volume_format.specs.Table.{TableSeen, all_extents, entry_at}

-- Bytes with zeros behind them, so many in all.
abbrev pub padded_field : ℕ → List ℕ → List ℕ
padded_field size bytes = bytes ++ replicate (size - length bytes) 0

-- A number in four bytes, the most significant first.
unfoldable pub number_bytes : ℕ → List ℕ
number_bytes n = to_be_bytes w32 n

-- The eight bytes of an extent: its first block, and its number of blocks.
unfoldable pub extent_bytes : Extent → List ℕ
extent_bytes e = number_bytes e.start ++ number_bytes e.pages

-- How many extents the files before file i have.
abbrev pub extents_up_to : List FileInfo → ℕ → ℕ
extents_up_to entries i = length (all_extents (take i entries))

-- The 32 bytes of a file's entry: name, length, place of its first extent in the table, number of
-- extents, and mode.
unfoldable pub file_entry_bytes : FileInfo → ℕ → List ℕ
file_entry_bytes e first =
    padded_field 16 e.name ++ number_bytes e.length ++ number_bytes first ++ number_bytes (length e.extents)
    ++ number_bytes (if e.writable then 1 else 0)

-- The 32 bytes of file i's entry.
abbrev pub entry_bytes : List FileInfo → ℕ → List ℕ
entry_bytes entries i = file_entry_bytes (entry_at entries i) (extents_up_to entries i)

-- The bytes of all entries, one behind the other.
abbrev pub entries_bytes : List FileInfo → List ℕ
entries_bytes entries = flat_map (entry_bytes entries) (range_with_len 0 (length entries))

-- The bytes of all files' extents, one behind the other.
abbrev pub extents_bytes : List FileInfo → List ℕ
extents_bytes entries = flat_map extent_bytes (all_extents entries)

-- The 32 bytes of the header, in version 2.
unfoldable pub header_bytes : TableSeen → List ℕ
header_bytes t =
    codes "SUNVMVOL" ++ number_bytes 2 ++ number_bytes t.blocks ++ number_bytes (length t.entries)
    ++ number_bytes (length (all_extents t.entries)) ++ replicate 8 0

-- The one spelling of a table: the header, room for 64 entries, and room for 252 extents.
unfoldable pub encoding : TableSeen → List ℕ
encoding t = header_bytes t ++ (padded_field 2048 (entries_bytes t.entries) ++ padded_field 2016 (extents_bytes t.entries))

-- A block with these bytes from a place on.
unfoldable pub with_block_bytes : List ℕ → ℕ → List ℕ → List ℕ
with_block_bytes block at bytes = take at block ++ (bytes ++ drop (at + length bytes) block)
