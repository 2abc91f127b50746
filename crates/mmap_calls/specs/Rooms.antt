-- Room for a piece that goes across a page, and the anon maps of a new one. Inside: no public clause cites this.
use Rattle.std.specs.Prelude.{◌≡◌, ◌≤◌, ◌<◌, ◌+◌, ◌-◌, ◌^◌, ℕ, [], List, Option, Some, None, IsSome, slice_set}
use Rattle.seg_vn.specs.vm_types.declared.call.Kind.{Kind}
use Rattle.seg_vn.specs.vm_types.declared.call.Kind.TheVariants.{Shared, Private}
use Rattle.seg_vn.specs.vm_types.declared.call.Object.{Object}
use Rattle.seg_vn.specs.vm_types.declared.call.Object.TheVariants as object
use Rattle.seg_vn.specs.addr_space.Space.{Part, piece_at}
use Rattle.seg_vn.specs.anon_map.Maps.{Map, IsUnused, holders_of}
use Rattle.seg_vn.specs.vm_world.MapSteps.{maps_made}
use Rattle.seg_vn.specs.vm_world.Segments.{Spot}
use Rattle.seg_vn.specs.vm_world.ZeroObjects.{free_number}
use Rattle.seg_vn.specs.vm_world.declared.segment.Segment.{Segment}
use Rattle.mmap_calls.specs.declared.maps.Anons.{Anons}

-- There is room for the later places of the part that has the page, if it is private, from the page on; and so many holders more of the map of the zero
-- object that it shows, if it shows one, can be counted.
pub record HasRoomAt (items : List (Option ℕ)) (room more : ℕ) (maps : List (Option Map)) (parts : List (Part Segment)) (page : ℕ) : Type 0 where
  pub empty : items ≡ []
  pub roomy : (x : Spot) → piece_at parts page ≡ Some x → IsSome x.0.own → x.0.pages - x.1 ≤ room
  pub few : (x : Spot) (number : ℕ) → piece_at parts page ≡ Some x → x.0.shown ≡ Some number → holders_of maps number + more < 2 ^ 32

-- What a new piece of so many pages shows, and its anon maps: a private one has a new map of its own; shared new zero memory shows a new zero object,
-- which has a new map and the least number that is free; and any other object has the map that is held for it.
abbrev pub AreMade : List (Option Map) → List (Option Map) → List (Option ℕ) → List (Option ℕ) → Option ℕ → ℕ → Kind → Object → Anons → Type 0
AreMade old new zeros now held pages Private o a =
    (number : ℕ) × IsUnused old number × (a ≡ record { object = o; own = Some number; shown = held }) × (new ≡ maps_made old (Some number) pages) × (now ≡ zeros)
AreMade old new zeros now held pages Shared object.NewZero a =
    (number : ℕ) × (z : ℕ) × IsUnused old number × (free_number zeros ≡ Some z) × (a ≡ record { object = object.Zero z; own = None; shown = Some number }) × (new ≡ maps_made old (Some number) pages) × (now ≡ slice_set zeros z (Some number))
AreMade old new zeros now held pages Shared o a = (a ≡ record { object = o; own = None; shown = held }) × (new ≡ old) × (now ≡ zeros)
