-- Changes of one process's segments: they are cut, go and come, with their anon maps and what is reserved. Public clauses cite this.
use Rattle.std.specs.Prelude.{◌≡◌, ◌<◌, ◌≤◌, ◌+◌, ◌-◌, ◌^◌, ◌++◌, ℕ, true, false, [], List, Option, Some, None, IsSome, is_some, length, option_map, replicate}
use Rattle.std.specs.FinMap as finite
use Rattle.std.specs.FinSet as set
use Rattle.std.specs.Ordering.{nat_cmp}
use Rattle.flat_model.specs.vm_types.Prot.{is_within}
use Rattle.flat_model.specs.vm_types.declared.call.Kind.{Kind}
use Rattle.flat_model.specs.vm_types.declared.call.Kind.TheVariants.{Shared, Private}
use Rattle.flat_model.specs.vm_types.declared.call.Object.TheVariants as object
use Rattle.addr_space.specs.Space.{Part, LiesFrom, part_at, begins, with_new_part, cut_at, without_part, with_new_piece, page_total}
use Rattle.anon_map.specs.Maps.{Map, IsUnused, AreEmpty, places_of, holders_of}
use Rattle.page_store.specs.Notes.{Notes}
use Rattle.flat_model.specs.Access.{with_space}
use Rattle.flat_model.specs.Flat.{Cell, Flat, is_named, without_unnamed, reserved}
use Rattle.flat_model.specs.Mapping.{cells_of, new_number, own_for, without_pages}
use Rattle.flat_model.specs.Processes.{without_process}
use Rattle.flat_model.specs.Shapes.{RespectsShape}
use Rattle.flat_model.specs.Space.{with_cells}
use Rattle.flat_model.specs.Words.{zero_page}
use Rattle.vm_world.specs.CallSteps.{TurnsMemory}
use Rattle.vm_world.specs.CountsFit.{ObjectFits, ShowsZero, slots_for_part}
use Rattle.vm_world.specs.FlatMemory.{Memory, flat_memory, space_with, zero_maps}
use Rattle.vm_world.specs.MapSteps.{maps_cut, maps_made, maps_held, maps_released, places_released}
use Rattle.vm_world.specs.MemoryFits.{MemoryFits}
use Rattle.vm_world.specs.Pages.{contents_of}
use Rattle.vm_world.specs.Segments.{Segment, Spaces}
use Rattle.vm_world.specs.SpaceSteps.{AreUnloaded, Becomes, first_pages, without_space}
use Rattle.vm_world.specs.World.{World}
use Rattle.vm_world.specs.WorldSteps.{stays, WorldStep}

-- Memory with these anon maps, so many slots reserved, and these parts of a process.
abbrev pub with_segments : Memory → List (Option Map) → ℕ → ℕ → List (Part Segment) → Memory
with_segments m maps reserved p parts = record { world = record m.world { anon = record m.world.anon { reserved = reserved }; maps = maps }; spaces = finite.insert m.spaces p parts }

-- The pages of a segment from a place on, with another number of its own map, if it has one.
abbrev pub upper_pages : ℕ → ℕ → Segment → Segment
upper_pages n number s = record s { pages = s.pages - n; index = s.index + n; own = option_map (λ (own : ℕ). number) s.own }

-- The parts, one of which is cut in two before a page; the upper one's own map has this number.
abbrev pub parts_cut : ℕ → ℕ → Part Segment → List (Part Segment) → List (Part Segment)
parts_cut page number x parts = cut_at page (upper_pages (page - x.first) number x.piece) (with_new_piece page (first_pages (page - x.first) x.piece) parts)

-- Memory with a part cut in two before a page: its own map is cut, and what the upper part has is
-- the new map; the map of the zero object that it shows has a holder more.
abbrev pub with_part_cut : Memory → ℕ → ℕ → ℕ → List (Part Segment) → Part Segment → Memory
with_part_cut m p page number parts x =
    with_segments m (maps_held (maps_cut m.world.maps x.piece.own number (page - x.first)) x.piece.shown) m.world.anon.reserved p (parts_cut page number x parts)

-- The anon maps once a segment goes: its own map goes, and that of the zero object that it shows
-- has a holder less.
abbrev pub maps_left : List (Option Map) → Segment → List (Option Map)
maps_left maps s = maps_released (maps_released maps s.own) s.shown

-- How many places go with the anon maps that go as a segment does.
abbrev pub places_left : List (Option Map) → Segment → ℕ
places_left maps s = places_released maps s.own + places_released (maps_released maps s.own) s.shown

-- Memory once a part goes, with its maps; the places of the maps that go are reserved no more.
abbrev pub with_part_gone : Memory → ℕ → List (Part Segment) → Part Segment → Memory
with_part_gone m p parts x = with_segments m (maps_left m.world.maps x.piece) (m.world.anon.reserved - places_left m.world.maps x.piece) p (without_part x.first parts)

-- A part may go: none of its pages has a translation, and the maps that go with it hold no slot.
pub record MayLeave (m : Memory) (p : ℕ) (x : Part Segment) : Type 0 where
  pub unloaded : AreUnloaded m.world.hat.places p x.first x.pages
  pub own : (number : ℕ) → x.piece.own ≡ Some number → AreEmpty (places_of m.world.maps number)
  pub shown : (number : ℕ) → x.piece.shown ≡ Some number → holders_of m.world.maps number ≡ 1 → AreEmpty (places_of m.world.maps number)

-- A private part that comes has a new map of its own; a shared one has none.
abbrev pub IsOwnNew : List (Option Map) → Segment → Kind → Type 0
IsOwnNew maps s Shared = s.own ≡ None
IsOwnNew maps s Private = (number : ℕ) × (s.own ≡ Some number) × IsUnused maps number

-- A part has a place among others: no page of it has a cell, its pages have numbers in its object, and what may be done there lies within the most that
-- may be.
pub record HasPlace (parts : List (Part Segment)) (x : Part Segment) : Type 0 where
  pub placed : LiesFrom 1 x
  pub pages : x.pages ≡ x.piece.pages
  pub end : x.piece.index + x.piece.pages < 2 ^ 32
  pub within : is_within x.piece.prot x.piece.max ≡ true
  pub free : (q : ℕ) → x.first ≤ q → q < x.first + x.pages → part_at parts q ≡ None

-- A part may come that shows a file, a zero object that is there, or new zero memory of its own: its object is there, with the map that it has for other
-- segments, and there are slots for its pages.
pub record MayCome (m : Memory) (parts : List (Part Segment)) (x : Part Segment) : Type 0 where
  pub place : HasPlace parts x
  pub object : ObjectFits (length m.world.files.files) m.world.maps x.piece x.piece.object
  pub zero : ShowsZero (zero_maps m.spaces) x.piece
  pub own : IsOwnNew m.world.maps x.piece x.piece.kind
  pub room : m.world.anon.reserved + slots_for_part x ≤ length m.world.anon.counts

-- Memory once a part comes: its own map is new and empty, the map of the zero object that it shows
-- has a holder more, and the slots that it reserves are reserved.
abbrev pub with_part_come : Memory → ℕ → List (Part Segment) → Part Segment → Memory
with_part_come m p parts x =
    with_segments m (maps_held (maps_made m.world.maps x.piece.own x.piece.pages) x.piece.shown) (m.world.anon.reserved + slots_for_part x) p (with_new_part x parts)

-- A part may come with a new zero object: this number names no object and this map is new, and there are slots for its pages.
pub record MayMakeZero (m : Memory) (parts : List (Part Segment)) (x : Part Segment) (z number : ℕ) : Type 0 where
  pub place : HasPlace parts x
  pub shared : x.piece.kind ≡ Shared
  pub object : x.piece.object ≡ object.Zero z
  pub own : x.piece.own ≡ None
  pub shown : x.piece.shown ≡ Some number
  pub unnamed : finite.get (zero_maps m.spaces) z ≡ None
  pub unused : IsUnused m.world.maps number
  pub room : m.world.anon.reserved + x.pages ≤ length m.world.anon.counts

-- Memory once a part comes with a new zero object: the object's map is new and empty, and a slot is
-- reserved for each of its pages.
abbrev pub with_zero_part : Memory → ℕ → List (Part Segment) → Part Segment → Memory
with_zero_part m p parts x = with_segments m (maps_made m.world.maps x.piece.shown x.piece.pages) (m.world.anon.reserved + x.pages) p (with_new_part x parts)

-- Memory with so many numbers more that name no anon map.
abbrev pub with_more_numbers : Memory → ℕ → Memory
with_more_numbers m more = record m { world = record m.world { maps = m.world.maps ++ replicate more None } }

-- The cell at a place of a segment that comes: a private one of new zero memory has a page of zeros of its own.
abbrev pub segment_cell : Segment → ℕ → Cell
segment_cell s i = record { prot = s.prot; max = s.max; kind = s.kind; object = s.object; index = s.index + i; own = own_for s.kind s.object }

-- Flat memory with so many cells of a process from a page on; a zero object that no cell names any
-- more is gone.
abbrev pub with_new_cells : Flat → ℕ → ℕ → ℕ → (ℕ → Cell) → Flat
with_new_cells F p first n cell = without_unnamed (with_space F p (with_cells (cells_of F p) first n cell))

-- Flat memory with a zero object of so many pages of zeros.
abbrev pub with_zero_object : Flat → ℕ → ℕ → Flat
with_zero_object F z n = record F { zeros = finite.insert F.zeros z (replicate n zero_page) }

-- The segments of one process change, and flat memory becomes this.
abbrev pub ChangesSegments : ℕ → Memory → Memory → (Flat → Flat) → Type 0
ChangesSegments p old new f = TurnsMemory p old new f (Becomes f)

-- A part that is cut in two leaves flat memory as it was. A part goes: then its pages have no cells, and a zero object that no cell names any more is gone.
-- A part comes where no other is: then its pages have its cells. And a process goes that has no part. Numbers that name no anon map, and a step of the
-- world that keeps all pages, leave flat memory as it was; and one change comes after another, where that respects the shape of flat memory.
pub record SegmentRule : Type 0 where
  pub cut : (m : Memory) (p page number : ℕ) (parts : List (Part Segment)) (x : Part Segment) → MemoryFits m → finite.get m.spaces p ≡ Some parts
      → part_at parts page ≡ Some x → x.first < page → (IsSome x.piece.own → IsUnused m.world.maps number)
      → ChangesSegments p m (with_part_cut m p page number parts x) (λ F. F)
  pub remove : (m : Memory) (p first : ℕ) (parts : List (Part Segment)) (x : Part Segment) → MemoryFits m → finite.get m.spaces p ≡ Some parts
      → begins parts first ≡ Some x → MayLeave m p x
      → ChangesSegments p m (with_part_gone m p parts x) (λ F. without_pages F p x.first x.pages)
  pub put : (m : Memory) (p : ℕ) (parts : List (Part Segment)) (x : Part Segment) → MemoryFits m → finite.get m.spaces p ≡ Some parts → MayCome m parts x
      → ChangesSegments p m (with_part_come m p parts x) (λ F. with_new_cells F p x.first x.pages (segment_cell x.piece))
  pub put_zero : (m : Memory) (p : ℕ) (parts : List (Part Segment)) (x : Part Segment) (z number : ℕ) → MemoryFits m → finite.get m.spaces p ≡ Some parts
      → MayMakeZero m parts x z number
      → ChangesSegments p m (with_zero_part m p parts x) (λ F. with_new_cells (with_zero_object F z x.pages) p x.first x.pages (segment_cell x.piece))
  pub leave : (m : Memory) (p : ℕ) → MemoryFits m → finite.get m.spaces p ≡ Some [] → ChangesSegments p m (without_space m p) (λ F. without_process F p)
  pub numbers : (m : Memory) (p more : ℕ) → MemoryFits m → ChangesSegments p m (with_more_numbers m more) (λ F. F)
  pub keeps : (p : ℕ) (old new : World) (spaces : Spaces) → MemoryFits (record { world = old; spaces = spaces }) → WorldStep old new spaces stays (λ name. false)
      → ChangesSegments p (record { world = old; spaces = spaces }) (record { world = new; spaces = spaces }) (λ F. F)
  pub joined : (p : ℕ) (u v w : Memory) (first second : Flat → Flat) → RespectsShape second → ChangesSegments p u v first → ChangesSegments p v w second
      → ChangesSegments p u w (λ F. second (first F))
  -- A change that is said by one function of flat memory may be said by another that gives the same.
  pub same : (p : ℕ) (u v : Memory) (f g : Flat → Flat) → ((born : set.FinSet nat_cmp) (notes : Notes) → f (flat_memory u born notes) ≡ g (flat_memory u born notes))
      → ChangesSegments p u v f → ChangesSegments p u v g

-- The cells of a process are those of its parts, as many as these have pages. The zero objects that there are, and the number that a new one gets, the least
-- that is none's, are told by the segments; and what flat memory reserves are the slots that are reserved.
pub record SegmentCells : Type 0 where
  pub cells : (m : Memory) (p : ℕ) (parts : List (Part Segment)) (born : set.FinSet nat_cmp) (notes : Notes) → MemoryFits m → finite.get m.spaces p ≡ Some parts
      → cells_of (flat_memory m born notes) p ≡ space_with (contents_of m.world notes).place parts
  pub count : (m : Memory) (p : ℕ) (parts : List (Part Segment)) (born : set.FinSet nat_cmp) (notes : Notes) → MemoryFits m → finite.get m.spaces p ≡ Some parts
      → finite.len (cells_of (flat_memory m born notes) p) ≡ page_total parts
  pub named : (m : Memory) (born : set.FinSet nat_cmp) (notes : Notes) (z : ℕ) → MemoryFits m
      → is_named (flat_memory m born notes) z ≡ is_some (finite.get (zero_maps m.spaces) z)
  pub there : (m : Memory) (born : set.FinSet nat_cmp) (notes : Notes) (z : ℕ) → MemoryFits m
      → is_some (finite.get (flat_memory m born notes).zeros z) ≡ is_some (finite.get (zero_maps m.spaces) z)
  pub number : (m : Memory) (born : set.FinSet nat_cmp) (notes : Notes) (z : ℕ) → MemoryFits m → finite.get (zero_maps m.spaces) z ≡ None
      → ((y : ℕ) → y < z → IsSome (finite.get (zero_maps m.spaces) y)) → new_number (flat_memory m born notes) ≡ z
  pub reserved : (m : Memory) (born : set.FinSet nat_cmp) (notes : Notes) → MemoryFits m → reserved (flat_memory m born notes) ≡ m.world.anon.reserved
