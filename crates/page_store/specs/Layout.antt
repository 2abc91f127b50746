-- The table of a machine whose files keep blocks of the disks, and whose slots are the blocks of the swap disk. Public clauses cite this.
use Rattle.std.specs.Prelude.{◌≡◌, ℕ, ◌+◌, ◌-◌, ◌*◌, ◌<◌, ◌≤◌, ◌==◌, ◌&&◌, min, Bool, false, if◌then◌else◌, nat_lt, List, length, slice_get, Option, Some, option_map, option_and_then, unwrap_or}
use Rattle.page_hash.specs.declared.PageName.{PageName}
use Rattle.page_store.specs.declared.place.Place.{Place}
use Rattle.page_store.specs.Table.{PlaceTable, IsApart}

-- A file on its disk: its length in bytes, and the block of each page that it keeps, in the order of its pages.
pub record FileBlocks : Type 0 where
  pub disk : ℕ
  pub length : ℕ
  pub blocks : List ℕ

-- The file keeps the page of this number, in this block.
pub record KeepsPage (files : List FileBlocks) (name : PageName) (file : FileBlocks) (block : ℕ) : Type 0 where
  pub number : slice_get files name.object ≡ Some file
  pub place : slice_get file.blocks name.page ≡ Some block

-- There are at most 64 files, each on one of the disks 0 to 7, and no block is that of two pages.
pub record AreDisjoint (files : List FileBlocks) : Type 0 where
  pub few : length files ≤ 64
  pub disks : (name : PageName) (file : FileBlocks) (block : ℕ) → KeepsPage files name file block → file.disk < 8
  pub apart : (m n : PageName) (f g : FileBlocks) (block : ℕ) → KeepsPage files m f block → KeepsPage files n g block → f.disk ≡ g.disk → m ≡ n

-- A page of a file: its block, and the bytes up to the file's length.
abbrev pub page_place : FileBlocks → ℕ → Bool → ℕ → Place
page_place file page blank block = record { disk = file.disk; block = block; valid = min (file.length - page * 4096) 4096; blank = blank }

-- A slot: the block of its number on the swap disk, and all its bytes.
abbrev pub slot_place : ℕ → Bool → Place
slot_place slot blank = record { disk = 8; block = slot; valid = 4096; blank = blank }

-- A name that is no page: a place of its own, on a disk that no store has.
abbrev pub own_place : PageName → Place
own_place name = record { disk = name.object + 9; block = name.page; valid = 4096; blank = false }

-- The place of a name whose page a file keeps.
abbrev pub file_page_place : List FileBlocks → PageName → Bool → Option Place
file_page_place files name blank =
    option_and_then (λ file. option_map (page_place file name.page blank) (slice_get file.blocks name.page)) (slice_get files name.object)

-- The name is one of so many slots.
abbrev pub is_slot : ℕ → PageName → Bool
is_slot slots name = (name.object == 64) && nat_lt name.page slots

-- Pages of files are in their blocks, slots on the swap disk, and every other name has a place of its own.
abbrev pub table_of : List FileBlocks → ℕ → (PageName → Bool) → PlaceTable
table_of files slots blank name =
    unwrap_or (file_page_place files name (blank name)) (if is_slot slots name then slot_place name.page (blank name) else own_place name)

-- Where the page of a name lives: in a file's block, in a slot's, or in a place of its own.
pub record TableOfFiles (files : List FileBlocks) (slots : ℕ) (blank : PageName → Bool) : Type 0 where
  pub page : (name : PageName) (file : FileBlocks) (block : ℕ) → KeepsPage files name file block
      → table_of files slots blank name ≡ page_place file name.page (blank name) block
  pub slot : length files ≤ 64 → (slot : ℕ) → slot < slots
      → table_of files slots blank (record { object = 64; page = slot }) ≡ slot_place slot (blank (record { object = 64; page = slot }))
  pub apart : AreDisjoint files → IsApart (table_of files slots blank)

-- Every machine has a table that is as TableOfFiles says.
pub record LayoutLaw : Type 0 where
  pub table : (files : List FileBlocks) (slots : ℕ) (blank : PageName → Bool) → TableOfFiles files slots blank
