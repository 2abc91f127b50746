-- Spaces from which ranges are taken out. Public clauses cite this.
use Rattle.std.specs.Prelude.{◌≡◌, ◌≤◌, ℕ, List, Option, Some, None, length}
use Rattle.std.specs.FinMap as finite
use Rattle.seg_ops.specs.addr_space.Space.{Part, piece_at}
use Rattle.seg_ops.specs.anon_map.Maps.{IsMapThere, places_of, free_numbers}
use Rattle.seg_ops.specs.anon_slots.Slots.{count_at}
use Rattle.seg_ops.specs.hat_layer.Pool.{translation_at}
use Rattle.seg_ops.specs.flat_model.Flat.{Flat}
use Rattle.seg_ops.specs.vm_world.FlatMemory.{Memory}
use Rattle.seg_ops.specs.vm_world.MemoryFits.{MemoryFits}
use Rattle.seg_ops.specs.vm_world.SegmentSteps.{ChangesSegments}
use Rattle.seg_ops.specs.vm_world.Segments.{Spot, Spaces}
use Rattle.seg_ops.specs.vm_world.declared.segment.Segment.{Segment}
use Rattle.seg_ops.specs.vm_world.Serving.{ModifiesNone}
use Rattle.seg_ops.specs.vm_world.Words.{memory}
use Rattle.seg_ops.specs.vm_world.World.{World, world_seen}
use Rattle.seg_ops.specs.vm_world.declared.world.World as rust
use Rattle.seg_ops.specs.vm_world.ZeroObjects.{KnowsZeros}

-- A process is alive with these parts, memory fits, and the list of zero objects is right.
pub record SpaceFits (w : World) (zeros : List (Option ℕ)) (spaces : Spaces) (p : ℕ) (parts : List (Part Segment)) : Type 0 where
  pub here : finite.get spaces p ≡ Some parts
  pub memory : MemoryFits (record { world = w; spaces = spaces })
  pub known : KnowsZeros zeros spaces

-- The segments of the process change, flat memory becomes this, and the list of zero objects is right.
pub record ChangesSpace (p : ℕ) (old new : Memory) (zeros : List (Option ℕ)) (f : Flat → Flat) : Type 0 where
  pub changes : ChangesSegments p old new f
  pub known : KnowsZeros zeros new.spaces

-- The process may be alive with these parts in the world.
abbrev pub MayBeAlive : {D : Type 0} → rust.World D → ℕ → List (Part Segment) → Type 0
MayBeAlive w p parts = (spaces : Spaces) × SpaceFits (world_seen w) w.zeros spaces p parts

-- Some process may be alive with these parts in the world.
abbrev pub MayBeSpace : {D : Type 0} → rust.World D → List (Part Segment) → Type 0
MayBeSpace w parts = (spaces : Spaces) × (process : ℕ) × SpaceFits (world_seen w) w.zeros spaces process parts

-- WHATEVER THE SPACES in which the process is alive with these parts: it is alive with the new ones, and flat memory becomes this.
abbrev pub SpaceBecomes : {D : Type 0} → rust.World D → rust.World D → ℕ → List (Part Segment) → List (Part Segment) → (Flat → Flat) → Type 0
SpaceBecomes old new p parts after f =
    (spaces : Spaces) → SpaceFits (world_seen old) old.zeros spaces p parts → ChangesSpace p (memory old spaces) (memory new (finite.insert spaces p after)) new.zeros f

-- Things are given back alone: no slot is counted more often, no page gets a translation, a map that is left was there and has as many places, and no fewer
-- numbers of maps are free; and no page becomes modified.
pub record GivesBack (old new : World) : Type 0 where
  pub fall : (slot : ℕ) → count_at new.anon slot ≤ count_at old.anon slot
  pub none : (p q : ℕ) → translation_at old.hat.places p q ≡ None → translation_at new.hat.places p q ≡ None
  pub there : (number : ℕ) → IsMapThere new.maps number → IsMapThere old.maps number
  pub lengths : (number : ℕ) → IsMapThere new.maps number → length (places_of new.maps number) ≡ length (places_of old.maps number)
  pub numbers : free_numbers old.maps ≤ free_numbers new.maps
  pub modified : ModifiesNone old new

-- No part goes across the begin of this page.
abbrev pub StartsAt : List (Part Segment) → ℕ → Type 0
StartsAt parts q = (x : Spot) → piece_at parts q ≡ Some x → x.1 ≡ 0
