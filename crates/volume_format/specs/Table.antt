-- A disk's table of files: what it is, and how it changes. Public clauses cite this.
use Rattle.std.specs.Prelude.{ℕ, ◌≡◌, ◌<◌, ◌≤◌, ◌+◌, true, false, nat_lt, List, [], ◌∷◌, length, Option, Some, None, slice_index_or, slice_set, All}
use Rattle.std.specs.List.{flat_map, list_any, insert, prefix_len}
use Rattle.vnode_files.specs.declared.extent.Extent.{Extent}
use Rattle.vnode_files.specs.declared.vnode.FileInfo.{FileInfo}
use Rattle.vnode_files.specs.Grow.{has_block, extent_end}

-- The blocks of a disk, and the files on it.
pub record TableSeen : Type 0 where
  pub blocks : ℕ
  pub entries : List FileInfo

-- The table of a disk of so many blocks without a file.
abbrev pub empty_table : ℕ → TableSeen
empty_table blocks = record { blocks = blocks; entries = [] }

-- The extents of files, one file's after another's.
abbrev pub all_extents : List FileInfo → List Extent
all_extents entries = flat_map (λ e. e.extents) entries

-- There is room in block 0 for the files and their extents.
pub record HasRoom (entries : List FileInfo) : Type 0 where
  pub files : length entries ≤ 64
  pub extents : length (all_extents entries) ≤ 252

-- The first block of a file with these extents, or 0 for a file without extents.
abbrev pub front_block : List Extent → ℕ
front_block [] = 0
front_block (e ∷ es) = e.start

-- A file without name, extents and bytes, which stands for a file that isn't there.
abbrev pub no_entry : FileInfo
no_entry = record { name = []; disk = 0; extents = []; length = 0; writable = false }

-- File i of a table, or the file without a name if there are fewer.
abbrev pub entry_at : List FileInfo → ℕ → FileInfo
entry_at entries i = slice_index_or entries i no_entry

-- The files with one more, behind those that begin before it.
abbrev pub with_table_entry : List FileInfo → FileInfo → List FileInfo
with_table_entry entries e = insert entries (prefix_len (λ f. nat_lt (front_block f.extents) (front_block e.extents)) entries) e

-- The files with another length and other extents of one of them.
abbrev pub with_changed : List FileInfo → ℕ → ℕ → List Extent → List FileInfo
with_changed entries i bytes extents = slice_set entries i (record (entry_at entries i) { length = bytes; extents = extents })

-- The extents lie on a disk of so many blocks, past block 0.
abbrev pub AreOnDisk : ℕ → List Extent → Type 0
AreOnDisk blocks extents = All (λ e. (1 ≤ e.start) × (extent_end e ≤ blocks)) extents

-- No block of the extents lies in one of the others.
abbrev pub AreFree : List Extent → List Extent → Type 0
AreFree extents others = (b : ℕ) → list_any (has_block b) extents ≡ true → list_any (has_block b) others ≡ false

-- So many blocks from a place on lie on the disk past block 0, and in no extent.
pub record IsFreePlace (blocks : ℕ) (extents : List Extent) (pages start : ℕ) : Type 0 where
  pub first : 1 ≤ start
  pub within : start + pages ≤ blocks
  pub free : (b : ℕ) → start ≤ b → b < start + pages → list_any (has_block b) extents ≡ false

-- The least free place of so many blocks among extents on a disk, or none if no place is free.
abbrev pub IsLeastPlace : ℕ → List Extent → ℕ → Option ℕ → Type 0
IsLeastPlace blocks extents pages None = (start : ℕ) → ¬ IsFreePlace blocks extents pages start
IsLeastPlace blocks extents pages (Some start) =
    IsFreePlace blocks extents pages start × ((before : ℕ) → before < start → ¬ IsFreePlace blocks extents pages before)
