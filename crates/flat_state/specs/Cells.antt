-- What the parts of the plain form stand for. Inside: no public clause cites this but for `extents_of`.
use Rattle.std.specs.Prelude.{ℕ, ◌==◌, ◌+◌, ◌-◌, ◌*◌, ◌++◌, take, replicate, nat_lt, if◌then◌else◌, length, slice_set, Bool, false, List, map, Some, None, Vec}
use Rattle.flat_model.specs.vm_types.declared.prot.Prot.{Prot}
use Rattle.flat_model.specs.vm_types.declared.call.Object.{Object}
use Rattle.flat_model.specs.vm_types.declared.call.Object.TheVariants as object
use Rattle.std.specs.Ordering.{nat_cmp}
use Rattle.std.specs.FinMap as finite
use Rattle.std.specs.FinSet as set
use Rattle.std.specs.declared.alloc.Global.{Global}
use Rattle.std.specs.BTreeMap.{BTreeMap}
use Rattle.std.specs.Map.{keys_of}
use Rattle.flat_state.specs.declared.cells.CellState.{CellState}
use Rattle.flat_state.specs.declared.files.FileState.{FileState}
use Rattle.flat_model.specs.vnode_files.declared.extent.Extent.{Extent}
use Rattle.flat_model.specs.Words.{Page, page_size, pages_in, zero_page}
use Rattle.flat_model.specs.Parts.{pages_with_bytes}
use Rattle.flat_model.specs.Flat.{Cell, File, Space}

-- The pages of a vector of pages.
abbrev pub pages_in_vec : Vec (Vec ℕ Global) Global → List Page
pages_in_vec v = map (λ p. p.items) v.items

-- The cell that a cell of the plain form stands for.
abbrev pub flat_cell : CellState → Cell
flat_cell c = record { prot = c.prot; max = c.max; kind = c.kind; object = c.object; index = c.index; own = c.own }

-- The file that a file of the plain form stands for, with its extents and pages as lists.
abbrev pub flat_file : FileState → File
flat_file f = record { len = f.len; disk = f.disk; extents = f.extents.items; writable = f.writable; pages = pages_in_vec f.pages }

-- A file with this page in the place of its last one, if it has one.
abbrev pub with_last_page : Page → File → File
with_last_page page file = record file { pages = slice_set file.pages (length file.pages - 1) page }

-- The pages of a file of so many bytes that gets n bytes.
abbrev pub pages_of_length : ℕ → ℕ → List Page → List Page
pages_of_length len n pages =
    let kept = take (pages_in n) pages in
    let more = pages ++ replicate (pages_in n - length pages) zero_page in
    if nat_lt n len then pages_with_bytes kept n (replicate (page_size * length kept - n) 0)
    else if nat_lt len n then pages_with_bytes more len (replicate (n - len) 0)
    else pages

-- The extents of these starts and pages.
abbrev pub extents_of : List (ℕ × ℕ) → List Extent
extents_of pairs = map (λ p. record { start = p.0; pages = p.1 }) pairs

-- The cells of a tree by page number.
abbrev pub space_in : BTreeMap ℕ CellState → Space
space_in m = finite.from_entries (map (λ e. (e.0, flat_cell e.1)) m.entries)

-- The zero objects of a tree by number.
abbrev pub zeros_in : BTreeMap ℕ (List Page) → finite.FinMap nat_cmp (List Page)
zeros_in m = finite.from_entries m.entries

-- The object is the zero object of this number.
abbrev pub is_zero : ℕ → Object → Bool
is_zero z (object.Zero y) = z == y
is_zero z (object.File f) = false
is_zero z object.NewZero = false

-- The cell names the zero object.
abbrev pub names : ℕ → Cell → Bool
names z c = is_zero z c.object

-- The processes of a tree.
abbrev pub processes_in : BTreeMap ℕ (Unit {0}) → set.FinSet nat_cmp
processes_in m = set.from_list (keys_of m.entries)

-- The cell with no page of its own.
abbrev pub without_own : Cell → Cell
without_own c = record c { own = None }

-- The cell with a page of its own.
abbrev pub with_own : Cell → Page → Cell
with_own c page = record c { own = Some page }

-- The cell that shows a page so far behind the cell's.
abbrev pub with_index : Cell → ℕ → Cell
with_index c i = record c { index = c.index + i }

-- The cell with a protection.
abbrev pub cell_with_prot : Cell → Prot → Cell
cell_with_prot c prot = record c { prot = prot }
