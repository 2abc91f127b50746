-- What flat memory is made of, and what a cell shows. Public clauses cite this.
use Rattle.std.specs.Prelude.{ℕ, ◌≡◌, ◌==◌, ◌+◌, Bool, List, length, Option, Some, None, IsSome, option_map, option_and_then, slice_get, sum_by, filter_map, flat_map, All, IsTrue}
use Rattle.std.specs.Option.{option_or}
use Rattle.std.specs.List.{list_any}
use Rattle.std.specs.Ordering.{nat_cmp}
use Rattle.std.specs.FinMap as map
use Rattle.std.specs.FinSet as set
use Rattle.vm_types.specs.declared.prot.Prot.{Prot}
use Rattle.vm_types.specs.declared.call.Kind.{Kind}
use Rattle.vm_types.specs.declared.call.Kind.TheVariants.{Shared, Private}
use Rattle.vm_types.specs.declared.call.Object.{Object}
use Rattle.vm_types.specs.declared.call.Object.TheVariants as object
use Rattle.vm_types.specs.Pages.{IsUserPage}
use Rattle.vnode_files.specs.declared.extent.Extent.{Extent}
use Rattle.flat_model.specs.Words.{Page, IsPage, pages_in}

-- A cell is one page of a mapping: what may be done there, at most what Protect may allow, shared or private, the object and the page of it that the cell stands for, and the cell's own page where it has one.
pub record Cell : Type 0 where
  pub prot : Prot
  pub max : Prot
  pub kind : Kind
  pub object : Object
  pub index : ℕ
  pub own : Option Page

-- The space of a process: its cells by page number.
abbrev pub Space : Type 0
Space = map.FinMap nat_cmp Cell

-- A file: its length in bytes, its disk, the extents of blocks there that it keeps, whether it may be written, and its pages. It keeps as many
-- pages as its extents have blocks. The bytes past the length in the last page are its tail.
pub record File : Type 0 where
  pub len : ℕ
  pub disk : ℕ
  pub extents : List Extent
  pub writable : Bool
  pub pages : List Page

-- Flat memory: the number of swap slots, the blocks of each disk by its number, the files, the zero objects by number, the spaces of the
-- processes that are alive, and the processes that were ever alive.
pub record Flat : Type 0 where
  pub slots : ℕ
  pub disks : map.FinMap nat_cmp ℕ
  pub files : List File
  pub zeros : map.FinMap nat_cmp (List Page)
  pub spaces : map.FinMap nat_cmp Space
  pub born : set.FinSet nat_cmp

-- The space of a process.
abbrev pub space_of : Flat → ℕ → Option Space
space_of F p = map.get F.spaces p

-- The cell at a page of a process, of these spaces.
abbrev pub cell_in : map.FinMap nat_cmp Space → ℕ → ℕ → Option Cell
cell_in spaces p q = option_and_then (λ space. map.get space q) (map.get spaces p)

-- The cell of a process at a page.
abbrev pub cell_at : Flat → ℕ → ℕ → Option Cell
cell_at F p q = cell_in F.spaces p q

-- The pages of a file or a zero object, where there is one.
abbrev pub pages_of : Flat → Object → Option (List Page)
pages_of F (object.File f) = option_map (λ file. file.pages) (slice_get F.files f)
pages_of F (object.Zero z) = map.get F.zeros z
pages_of F object.NewZero = None

-- What a cell shows: its own page, or else the page at its index of its object, if the object has that page.
abbrev pub shown : Flat → Cell → Option Page
shown F c = option_or c.own (option_and_then (λ pages. slice_get pages c.index) (pages_of F c.object))

-- The zero object that a cell names, if it names one.
abbrev pub zero_of : Cell → Option ℕ
zero_of c = elim c.object [ object.Zero z ↦ Some z | object.File f ↦ None | object.NewZero ↦ None ]

-- The numbers of the zero objects that the cells of these spaces name, one for each cell that names one.
abbrev pub named_zeros_in : map.FinMap nat_cmp Space → List ℕ
named_zeros_in spaces = flat_map (λ space. filter_map zero_of (map.values space)) (map.values spaces)

-- Some cell of these spaces names the zero object.
abbrev pub names_zero : map.FinMap nat_cmp Space → ℕ → Bool
names_zero spaces z = list_any (λ y. z == y) (named_zeros_in spaces)

-- The numbers of the zero objects that cells name.
abbrev pub named_zeros : Flat → List ℕ
named_zeros F = named_zeros_in F.spaces

-- Some cell of some process names the zero object.
abbrev pub is_named : Flat → ℕ → Bool
is_named F z = names_zero F.spaces z

-- A zero object that no cell names is gone.
abbrev pub without_unnamed : Flat → Flat
without_unnamed F = record F { zeros = map.retain_keys F.zeros (is_named F) }

-- What a cell reserves: a private one a slot, a shared one none.
abbrev pub slots_for : Cell → ℕ
slots_for c = elim c.kind [ Private ↦ 1 | Shared ↦ 0 ]

-- How many private cells a space has.
abbrev pub private_cells : Space → ℕ
private_cells space = sum_by slots_for (map.values space)

-- The slots that these spaces and these zero objects reserve: one for each private cell, and one for each page of a zero object.
abbrev pub reserved_by : map.FinMap nat_cmp Space → map.FinMap nat_cmp (List Page) → ℕ
reserved_by spaces zeros = sum_by private_cells (map.values spaces) + sum_by length (map.values zeros)

-- The slots that are reserved. A zero object counts once, and only where some cell names it.
abbrev pub reserved : Flat → ℕ
reserved F = reserved_by F.spaces (without_unnamed F).zeros

-- A cell is well formed: its own page is a page, a shared cell has none, and a private cell of new zero memory has one.
pub record IsCell (c : Cell) : Type 0 where
  pub page : (own : Page) → c.own ≡ Some own → IsPage own
  pub shared : c.kind ≡ Shared → c.own ≡ None
  pub zero : c.kind ≡ Private → c.object ≡ object.NewZero → IsSome c.own

-- A file is well formed: it has the pages that its length takes.
pub record IsFile (file : File) : Type 0 where
  pub count : length file.pages ≡ pages_in file.len
  pub pages : All IsPage file.pages

-- Flat memory is well formed: pages 1 to 0x7ffff alone have cells, cells and files are well formed, zero objects consist of pages, and who is alive was born.
pub record IsFlat (F : Flat) : Type 0 where
  pub pages : (p q : ℕ) (c : Cell) → cell_at F p q ≡ Some c → IsUserPage q
  pub cells : (p q : ℕ) (c : Cell) → cell_at F p q ≡ Some c → IsCell c
  pub files : All IsFile F.files
  pub zeros : (z : ℕ) (pages : List Page) → map.get F.zeros z ≡ Some pages → All IsPage pages
  pub born : (p : ℕ) → IsSome (space_of F p) → IsTrue (set.contains F.born p)
