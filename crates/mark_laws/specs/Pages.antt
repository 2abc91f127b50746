-- Pages of files by flat memory, and what blocks have of them. Public clauses cite this.
use Rattle.std.specs.Prelude.{◌≡◌, ◌<◌, ◌≤◌, length, ℕ, Bool, true, List, [], take, Option, Some, option_map, option_and_then, unwrap_or, slice_get}
use Rattle.std.specs.Option.{option_map_or}
use Rattle.flat_model.specs.vm_types.Pages.{bytes_before}
use Rattle.flat_model.specs.vm_types.declared.call.Entry.{Entry}
use Rattle.flat_model.specs.vnode_files.Vnode.{page_blocks}
use Rattle.flat_model.specs.Flat.{Flat}
use Rattle.flat_model.specs.History.{replay}
use Rattle.flat_model.specs.Words.{Page}
use Rattle.page_store.specs.page_hash.declared.PageName.{PageName}
use Rattle.page_store.specs.Bytes.{clip}

-- Flat memory after the first so many entries.
abbrev pub after_first : Flat → List Entry → ℕ → Flat
after_first opening H j = replay opening (take j H)

-- The page of a file; none past its end.
abbrev pub file_page : Flat → PageName → Page
file_page F name = unwrap_or (option_and_then (λ file. slice_get file.pages name.page) (slice_get F.files name.object)) []

-- How many bytes of a page lie before its file's end.
abbrev pub bytes_there : Flat → PageName → ℕ
bytes_there F name = option_map_or (λ file. bytes_before file.len name.page) (slice_get F.files name.object) 0

-- The page of a file up to the file's end, with zeros after it.
abbrev pub page_there : Flat → PageName → Page
page_there F name = clip (bytes_there F name) (file_page F name)

-- The disk and the block of a page that a file keeps.
abbrev pub disk_place : Flat → PageName → Option (ℕ × ℕ)
disk_place F name = option_and_then (λ file. option_map (λ block. (file.disk, block)) (slice_get (page_blocks file.extents) name.page)) (slice_get F.files name.object)

-- No two pages of files have one place.
abbrev pub HavePlacesApart : Flat → Type 0
HavePlacesApart F = (a b : PageName) (disk block : ℕ) → disk_place F a ≡ Some (disk, block) → disk_place F b ≡ Some (disk, block) → a ≡ b

-- A block has a page up to the file's end, and zeros after it where its row says so.
pub record HasPage (F : Flat) (name : PageName) (pushed : Bool) (block : List ℕ) : Type 0 where
  pub same : clip (bytes_there F name) block ≡ page_there F name
  pub rest : pushed ≡ true → block ≡ page_there F name

-- THE BYTES ARE A PAGE of a file as it was after some front of the history, in which it lay before the file's end: all of it, with zeros behind that end.
pub record ArePageOf (F : Flat) (H : List Entry) (name : PageName) (bytes : List ℕ) : Type 0 where
  pub entries : ℕ
  pub made : entries ≤ length H
  pub inside : 0 < bytes_there (after_first F H entries) name
  pub same : bytes ≡ page_there (after_first F H entries) name
