-- A machine on which slots are tried: process 1 has two private mappings of new zero memory, and a page of each has the same slot. Inside: no public
-- clause cites this.
use Rattle.std.specs.Prelude.{◌≡◌, ◌<◌, ◌+◌, ◌*◌, ℕ, Bool, false, List, [], ◌∷◌, length, replicate, Option, Some, None}
use Rattle.std.specs.FinMap as finite
use Rattle.vm_types.specs.declared.call.Kind.TheVariants.{Shared, Private}
use Rattle.vm_types.specs.declared.call.Object.TheVariants as object
use Rattle.addr_space.specs.Space.{Part, with_new_part}
use Rattle.anon_map.specs.Maps.{Map, IsMapThere, places_of}
use Rattle.anon_slots.specs.Slots.{AnonSlotsSeen, IsSoundAnonSlots}
use Rattle.hat_layer.specs.Pool.{translation_at}
use Rattle.seg_ops.specs.vm_world.declared.segment.Segment.{Segment}
use Rattle.seg_ops.specs.vm_world.Segments.{Spaces}
use Rattle.seg_ops.specs.vm_world.World.{World}
use Rattle.seg_ops.specs.Slots.{OwnsAlone}

-- The mapping whose anon map has this number: two pages, to be read and written.
abbrev pub holding_segment : ℕ → Segment
holding_segment m = record { pages = 2; prot = record { 0 = 3 }; max = record { 0 = 3 }; kind = Private; object = object.NewZero; index = 0; own = Some m; shown = None }

-- The page of the process whose own place is this one.
abbrev pub holding_page : ℕ → ℕ → ℕ
holding_page m i = 2 * m + 1 + i

-- The part of the space in which the mapping of this anon map lies: two pages.
abbrev pub holding_part : ℕ → Part Segment
holding_part m = record { first = 2 * m + 1; pages = 2; piece = holding_segment m }

-- The one space, of process 1, with its two mappings.
abbrev pub holding_spaces : Spaces
holding_spaces = finite.insert finite.empty 1 (holding_part 0 ∷ holding_part 1 ∷ [])

-- A shared mapping of zero object 0, of three pages, whose anon map is the third.
abbrev pub object_segment : Segment
object_segment = record { pages = 3; prot = record { 0 = 3 }; max = record { 0 = 3 }; kind = Shared; object = object.Zero 0; index = 0; own = None; shown = Some 2 }

-- The part of the space in which zero object 0's mapping lies: pages 5 to 7.
abbrev pub object_part : Part Segment
object_part = record { first = 5; pages = 3; piece = object_segment }

-- The one space, of process 1, with its two mappings and zero object 0's behind them.
abbrev pub object_spaces : Spaces
object_spaces = finite.insert holding_spaces 1 (with_new_part object_part (holding_part 0 ∷ holding_part 1 ∷ []))

-- An anon map of one holder and two places, the first of which holds slot 0.
abbrev pub holding_map : Option Map
holding_map = Some (record { places = Some 0 ∷ None ∷ []; holders = 1 })

-- The two maps, each of which holds slot 0.
abbrev pub holding_maps : List (Option Map)
holding_maps = holding_map ∷ holding_map ∷ []

-- Seven slots, of which slot 0 is counted twice and four are reserved; its page was pushed, or
-- wasn't.
abbrev pub holding_slots : Bool → AnonSlotsSeen
holding_slots pushed = record { counts = 2 ∷ replicate 6 0; swapped = pushed ∷ replicate 6 false; reserved = 4 }

-- The slots are those of the trial, and sound.
pub record HoldsOne (pushed : Bool) (slots : AnonSlotsSeen) : Type 0 where
  pub are : slots ≡ holding_slots pushed
  pub sound : IsSoundAnonSlots slots

-- The place is there, and its page has no translation.
pub record IsHoldingPlace (w : World) (m i : ℕ) : Type 0 where
  pub there : IsMapThere w.maps m
  pub within : i < length (places_of w.maps m)
  pub owns : OwnsAlone holding_spaces 1 (holding_page m i) m i (holding_segment m, i)
  pub unloaded : translation_at w.hat.places 1 (holding_page m i) ≡ None
