-- Segments, the spaces that they make up, and the page that each place of a segment shows. Public clauses cite this.
use Rattle.std.specs.Prelude.{ℕ, ◌+◌, List, map, flat_map, Option, Some, None, option_and_then, option_map}
use Rattle.std.specs.Option.{option_or}
use Rattle.std.specs.Ordering.{nat_cmp}
use Rattle.std.specs.FinMap as finite
use Rattle.flat_model.specs.vm_types.declared.call.Object.{Object}
use Rattle.flat_model.specs.vm_types.declared.call.Object.TheVariants as object
use Rattle.page_store.specs.page_hash.declared.PageName.{PageName}
use Rattle.anon_map.specs.Maps.{Map}
use Rattle.addr_space.specs.Space.{Part, piece_at}
pub use Rattle.vm_world.specs.declared.segment.Segment.{Segment}
use Rattle.vm_world.specs.World.{slot_in, file_name, slot_name}

-- A segment and a place in it.
abbrev pub Spot : Type 0
Spot = Segment × ℕ

-- The segments of each process that is alive, by rising page.
abbrev pub Spaces : Type 0
Spaces = finite.FinMap nat_cmp (List (Part Segment))

-- The segment that has a page of a process, and the page's place in it.
abbrev pub spot_at : Spaces → ℕ → ℕ → Option Spot
spot_at spaces process page = option_and_then (λ parts. piece_at parts page) (finite.get spaces process)

-- The segments of all processes.
abbrev pub segments_of : Spaces → List Segment
segments_of spaces = flat_map (λ (parts : List (Part Segment)). map (λ (p : Part Segment). p.piece) parts) (finite.values spaces)

-- The slot that the segment's own map holds at the place.
abbrev pub own_slot : List (Option Map) → Spot → Option ℕ
own_slot maps x = option_and_then (λ number. slot_in maps number x.1) x.0.own

-- The page of an object at an index: a file's, or the slot that the map of the zero object holds there.
abbrev pub object_name : List (Option Map) → Option ℕ → ℕ → Object → Option PageName
object_name maps shown index (object.File f) = Some (file_name f index)
object_name maps shown index (object.Zero z) = option_and_then (λ number. option_map slot_name (slot_in maps number index)) shown
object_name maps shown index object.NewZero = None

-- The page that a place shows: the slot of the segment's own map, or else the page of its object.
abbrev pub shown_name : List (Option Map) → Spot → Option PageName
shown_name maps x = option_or (option_map slot_name (own_slot maps x)) (object_name maps x.0.shown (x.0.index + x.1) x.0.object)

-- The number of the zero object that a segment shows, and its map.
abbrev pub zero_map : Segment → Option (ℕ × ℕ)
zero_map s = elim s.object [ object.Zero z ↦ option_map (λ (number : ℕ). (z, number)) s.shown | object.File f ↦ None | object.NewZero ↦ None ]
