-- Counts of slots, holders of maps, and the reservation. Public clauses cite this.
use Rattle.std.specs.Prelude.{◌≡◌, ◌<◌, ◌+◌, ◌^◌, ℕ, ◌==◌, Bool, false, true, List, [], All, Option, Some, None, length, count_by, sum_by, if◌then◌else◌}
use Rattle.std.specs.Ordering.{nat_cmp}
use Rattle.std.specs.FinMap as finite
use Rattle.flat_model.specs.vm_types.declared.call.Kind.{Kind}
use Rattle.flat_model.specs.vm_types.declared.call.Kind.TheVariants.{Shared, Private}
use Rattle.flat_model.specs.vm_types.declared.call.Object.{Object}
use Rattle.flat_model.specs.vm_types.declared.call.Object.TheVariants as object
use Rattle.flat_model.specs.vm_types.Prot.{is_within}
use Rattle.addr_space.specs.Space.{Part, IsInOrder}
use Rattle.anon_slots.specs.Slots.{AnonSlotsSeen, IsSoundAnonSlots, count_at}
use Rattle.anon_map.specs.Maps.{Map, IsMapThere, places_of, holders_of}
use Rattle.vm_world.specs.Segments.{Segment, Spaces, segments_of, zero_map}
use Rattle.vm_world.specs.FlatMemory.{zero_maps}
use Rattle.vm_world.specs.World.{slot_in}

-- The value is this number.
abbrev pub is_number : ℕ → Option ℕ → Bool
is_number n None = false
is_number n (Some m) = m == n

-- The places of a map; none where it is gone.
abbrev pub places_in : Option Map → List (Option ℕ)
places_in None = []
places_in (Some m) = m.places

-- How many places of all maps hold a slot.
abbrev pub times_held : List (Option Map) → ℕ → ℕ
times_held maps slot = sum_by (λ m. count_by (is_number slot) (places_in m)) maps

-- A slot's count is the number of places that hold it; the slots in use are reserved, and no more are reserved than there are; and as many are reserved
-- as the maps have places.
pub record CountsFit (anon : AnonSlotsSeen) (maps : List (Option Map)) : Type 0 where
  pub sound : IsSoundAnonSlots anon
  pub counts : (slot : ℕ) → count_at anon slot ≡ times_held maps slot
  pub places : sum_by (λ m. length (places_in m)) maps ≡ anon.reserved

-- How often a segment has a map: as its own, and as that of the zero object which it shows.
abbrev pub times_had : ℕ → Segment → ℕ
times_had number s = (if is_number number s.own then 1 else 0) + (if is_number number s.shown then 1 else 0)

-- A segment's object is there: a file, a zero object with its map, or, where it is private, new zero memory.
abbrev pub ObjectFits : ℕ → List (Option Map) → Segment → Object → Type 0
ObjectFits files maps s (object.File f) = (f < files) × (s.shown ≡ None)
ObjectFits files maps s (object.Zero z) = (number : ℕ) × (s.shown ≡ Some number) × IsMapThere maps number
ObjectFits files maps s object.NewZero = (s.kind ≡ Private) × (s.shown ≡ None)

-- A private segment has a map of its own, with a place for each of its pages and one holder; a shared one has none.
abbrev pub OwnFits : List (Option Map) → Segment → Kind → Type 0
OwnFits maps s Shared = s.own ≡ None
OwnFits maps s Private = (number : ℕ) × (s.own ≡ Some number) × (IsMapThere maps number) × (length (places_of maps number) ≡ s.pages) × (holders_of maps number ≡ 1)

-- A segment has the pages of its part; its pages have numbers in its object; what may be done there lies within the most that may be; and its object
-- and its map are there.
pub record SegmentFits (files : ℕ) (maps : List (Option Map)) (p : Part Segment) : Type 0 where
  pub pages : p.pages ≡ p.piece.pages
  pub end : p.piece.index + p.piece.pages < 2 ^ 32
  pub within : is_within p.piece.prot p.piece.max ≡ true
  pub object : ObjectFits files maps p.piece p.piece.object
  pub own : OwnFits maps p.piece p.piece.kind

-- What a part reserves: a slot for each private page.
abbrev pub slots_for_part : Part Segment → ℕ
slots_for_part p = elim p.piece.kind [ Private ↦ p.pages | Shared ↦ 0 ]

-- What spaces reserve: a slot for each private page, and one for each place of a zero object's map.
abbrev pub reserved_pages : List (Option Map) → Spaces → ℕ
reserved_pages maps spaces = sum_by (λ parts. sum_by slots_for_part parts) (finite.values spaces) + sum_by (λ number. length (places_of maps number)) (finite.values (zero_maps spaces))

-- The segment's zero object, if it shows one, has the map that it has for every segment.
abbrev pub ShowsZero : finite.FinMap nat_cmp ℕ → Segment → Type 0
ShowsZero zeros s = (z number : ℕ) → zero_map s ≡ Some (z, number) → finite.get zeros z ≡ Some number

-- The parts of each space lie in order, and each segment fits; a map has a holder for each time that a segment has it; a zero object has one map, and
-- a map at most one zero object; no other place holds a slot that a zero object's map holds; and what is reserved is what the segments reserve.
pub record SegmentsFit (files : ℕ) (anon : AnonSlotsSeen) (maps : List (Option Map)) (spaces : Spaces) : Type 0 where
  pub ordered : (p : ℕ) (parts : List (Part Segment)) → finite.get spaces p ≡ Some parts → IsInOrder 1 parts
  pub each : (p : ℕ) (parts : List (Part Segment)) → finite.get spaces p ≡ Some parts → All (SegmentFits files maps) parts
  pub holders : (number : ℕ) → holders_of maps number ≡ sum_by (times_had number) (segments_of spaces)
  pub zeros : All (ShowsZero (zero_maps spaces)) (segments_of spaces)
  pub apart : (y z number : ℕ) → finite.get (zero_maps spaces) y ≡ Some number → finite.get (zero_maps spaces) z ≡ Some number → y ≡ z
  pub once : (z number place slot : ℕ) → finite.get (zero_maps spaces) z ≡ Some number → slot_in maps number place ≡ Some slot → count_at anon slot ≡ 1
  pub reserved : reserved_pages maps spaces ≡ anon.reserved
