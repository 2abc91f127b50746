-- What a table that block 0 can say is. Public clauses cite this.
use Rattle.std.specs.Prelude.{ℕ, ◌≡◌, ◌≢◌, ◌<◌, ◌≤◌, ◌+◌, ◌*◌, ◌^◌, true, false, List, length, codes, slice_index_or}
use Rattle.std.specs.List.{list_all}
use Rattle.vnode_files.specs.declared.extent.Extent.{Extent}
use Rattle.vnode_files.specs.declared.vnode.FileInfo.{FileInfo}
use Rattle.vnode_files.specs.Grow.{extent_end, page_count}
use Rattle.volume_format.specs.Table.{TableSeen, HasRoom, all_extents, entry_at, front_block}
use Rattle.volume_format.specs.Rules.{is_table_name_byte, is_on_disk, do_meet}

-- The name of a file of a volume: 1 to 16 bytes that names consist of, and not "zero".
pub record IsVolumeName (name : List ℕ) : Type 0 where
  pub some : 1 ≤ length name
  pub short : length name ≤ 16
  pub bytes : list_all is_table_name_byte name ≡ true
  pub other : name ≢ codes "zero"

-- Extent j of a list, or one without blocks if there are fewer.
abbrev pub extent_at : List Extent → ℕ → Extent
extent_at extents j = slice_index_or extents j (record { start = 0; pages = 0 })

-- A file of a volume on a disk of so many blocks: name and length fit, each extent lies on the
-- disk, none continues the one before.
pub record IsVolumeFile (blocks : ℕ) (e : FileInfo) : Type 0 where
  pub name : IsVolumeName e.name
  pub disk : e.disk ≡ 0
  pub some : 1 ≤ length e.extents
  pub places : (j : ℕ) → j < length e.extents → is_on_disk blocks (extent_at e.extents j) ≡ true
  pub parted : (j : ℕ) → j + 1 < length e.extents → extent_end (extent_at e.extents j) ≢ (extent_at e.extents (j + 1)).start
  pub within : e.length ≤ page_count e.extents * 4096
  pub number : e.length < 2 ^ 32

-- The table of a volume: its files have room in block 0 and other names, no two extents have a block in common, and the files stand in the order
-- of their first blocks.
pub record IsVolumeTable (t : TableSeen) : Type 0 where
  pub number : t.blocks < 2 ^ 32
  pub room : HasRoom t.entries
  pub files : (i : ℕ) → i < length t.entries → IsVolumeFile t.blocks (entry_at t.entries i)
  pub names : (i k : ℕ) → k < i → i < length t.entries → (entry_at t.entries k).name ≢ (entry_at t.entries i).name
  pub order : (i : ℕ) → i + 1 < length t.entries → front_block (entry_at t.entries i).extents < front_block (entry_at t.entries (i + 1)).extents
  pub apart : (j k : ℕ) → k < j → j < length (all_extents t.entries)
      → do_meet (extent_at (all_extents t.entries) k) (extent_at (all_extents t.entries) j) ≡ false

-- No file of the table has the name.
abbrev pub IsNewName : List ℕ → List FileInfo → Type 0
IsNewName name entries = (i : ℕ) → i < length entries → (entry_at entries i).name ≢ name

-- No two extents of the list have a block in common.
abbrev pub AreDisjointExtents : List Extent → Type 0
AreDisjointExtents extents = (j k : ℕ) → k < j → j < length extents → do_meet (extent_at extents k) (extent_at extents j) ≡ false
