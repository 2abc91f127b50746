-- The flat memory that memory stands for. Public clauses cite this.
use Rattle.std.specs.Prelude.{ℕ, zero, suc, ◌+◌, List, [], ◌∷◌, map, filter_map, flat_map, Option, Some, None, option_and_then, unwrap_or, length}
use Rattle.std.specs.Option.{option_or}
use Rattle.std.specs.Ordering.{nat_cmp}
use Rattle.std.specs.FinMap as finite
use Rattle.std.specs.FinSet as set
use Rattle.flat_model.specs.vm_types.declared.call.Object.{Object}
use Rattle.flat_model.specs.vm_types.declared.call.Object.TheVariants as object
use Rattle.flat_model.specs.vnode_files.declared.vnode.FileInfo.{FileInfo}
use Rattle.flat_model.specs.vnode_files.Vnode.{VnodeSeen}
use Rattle.addr_space.specs.Space.{Part}
use Rattle.addr_space.specs.Pages.{pages_of_parts}
use Rattle.anon_map.specs.Maps.{places_of}
use Rattle.page_store.specs.Notes.{Notes}
use Rattle.flat_model.specs.Words.{Page, zero_page, pages_in}
use Rattle.flat_model.specs.Flat.{Cell, File, Flat, Space}
pub use Rattle.flat_model.specs.Shapes.{map_with}
use Rattle.vm_world.specs.Segments.{Segment, Spot, Spaces, zero_map}
use Rattle.vm_world.specs.World.{World}
use Rattle.vm_world.specs.Pages.{Contents, contents_of}

-- Memory: the world, and the segments of each process that is alive.
pub record Memory : Type 0 where
  pub world : World
  pub spaces : Spaces

-- What no access, fault or transfer changes: how many slots there are, the blocks of the disks, the files' records, the lengths of the anon maps,
-- and the spaces.
pub record Shape : Type 0 where
  pub slots : ℕ
  pub disks : finite.FinMap nat_cmp ℕ
  pub files : List FileInfo
  pub lengths : ℕ → ℕ
  pub spaces : Spaces

-- What a private cell whose place holds no slot has as its own: zeros where it is new zero memory, else none.
abbrev pub own_without_slot : Object → Option Page
own_without_slot object.NewZero = Some zero_page
own_without_slot o = None

-- The own page of a cell: that of the slot which its segment's own map holds.
abbrev pub own_page : (ℕ → ℕ → Option Page) → Spot → Option Page
own_page held x = option_and_then (λ number. option_or (held number x.1) (own_without_slot x.0.object)) x.0.own

-- The cell at a place of a segment.
abbrev pub cell_of : (ℕ → ℕ → Option Page) → Spot → Cell
cell_of held x = record { prot = x.0.prot; max = x.0.max; kind = x.0.kind; object = x.0.object; index = x.0.index + x.1; own = own_page held x }

-- The cells of a process.
abbrev pub space_with : (ℕ → ℕ → Option Page) → List (Part Segment) → Space
space_with held parts = map_with (cell_of held) (pages_of_parts parts)

-- So many pages, from place k on.
abbrev pub pages_from : (ℕ → Page) → ℕ → ℕ → List Page
pages_from page k zero = []
pages_from page k (suc n) = page k ∷ pages_from page (suc k) n

-- A file with its pages.
abbrev pub file_with_pages : (ℕ → Page) → FileInfo → File
file_with_pages page info = record { len = info.length; disk = info.disk; extents = info.extents; writable = info.writable; pages = pages_from page 0 (pages_in info.length) }

-- The files, numbered from k on.
abbrev pub files_with_pages : (ℕ → ℕ → Page) → ℕ → List FileInfo → List File
files_with_pages page k [] = []
files_with_pages page k (info ∷ infos) = file_with_pages (page k) info ∷ files_with_pages page (suc k) infos

-- The anon map of each zero object that a segment shows.
abbrev pub zero_maps : Spaces → finite.FinMap nat_cmp ℕ
zero_maps spaces = finite.from_entries (flat_map (λ (parts : List (Part Segment)). filter_map (λ (p : Part Segment). zero_map p.piece) parts) (finite.values spaces))

-- The pages of a zero object: a place without a slot is zeros.
abbrev pub zero_pages : (ℕ → ℕ → Option Page) → (ℕ → ℕ) → ℕ → List Page
zero_pages held lengths number = pages_from (λ place. unwrap_or (held number place) zero_page) 0 (lengths number)

-- Flat memory of a shape and contents, and of who was ever alive.
abbrev pub flat_shaped : Shape → set.FinSet nat_cmp → Contents → Flat
flat_shaped s born c = record {
  slots = s.slots;
  disks = s.disks;
  files = files_with_pages c.file 0 s.files;
  zeros = map_with (zero_pages c.place s.lengths) (zero_maps s.spaces);
  spaces = map_with (space_with c.place) s.spaces;
  born = born;
}

-- The shape of memory: all of it that no access, fault or transfer changes.
abbrev pub shape_of : Memory → Shape
shape_of m = record {
  slots = length m.world.anon.counts;
  disks = m.world.files.disks;
  files = map (λ (v : VnodeSeen). v.info) m.world.files.files;
  lengths = λ number. length (places_of m.world.maps number);
  spaces = m.spaces;
}

-- The flat memory that memory stands for, with what the seats have outside and who was ever alive.
abbrev pub flat_memory : Memory → set.FinSet nat_cmp → Notes → Flat
flat_memory m born notes = flat_shaped (shape_of m) born (contents_of m.world notes)
