-- Laws of the fit and of steps of the world. Public clauses cite this.
use Rattle.std.specs.Prelude.{◌≡◌, ◌≢◌, ◌||◌, ◌<◌, ◌≤◌, ◌+◌, ℕ, Bool, false, List, length, Option, Some, None, slice_set, if◌then◌else◌}
use Rattle.addr_space.specs.Space.{Part, IsInOrder}
use Rattle.anon_map.specs.Maps.{Map, places_of, with_places}
use Rattle.anon_slots.specs.Slots.{AnonSlotsSeen, count_at, slots_in_use}
use Rattle.std.specs.FinMap as finite
use Rattle.std.specs.FinSet as set
use Rattle.std.specs.Ordering.{nat_cmp}
use Rattle.page_store.specs.page_hash.declared.PageName.{PageName}
use Rattle.page_store.specs.Notes.{Notes}
use Rattle.flat_model.specs.Flat.{IsFlat, reserved}
use Rattle.flat_model.specs.Step.{tails_cleared}
use Rattle.vm_world.specs.FlatMemory.{Memory, flat_memory, flat_shaped, shape_of}
use Rattle.vm_world.specs.MemoryFits.{MemoryFits}
use Rattle.vm_world.specs.NotesFit.{NotesFit}
use Rattle.vm_world.specs.Pages.{Contents}
use Rattle.vm_world.specs.Segments.{Segment, Spaces}
use Rattle.vm_world.specs.CountsFit.{CountsFit, is_number, times_held, reserved_pages}
use Rattle.vm_world.specs.World.{World, slot_in, AllTell}
use Rattle.vm_world.specs.WorldSteps.{Trip, stays, HasTrip, notes_after, WorldStep, tails_lost}

-- What a step of the world does to flat memory: the tails of the files whose last page is cut become zeros, and nothing else changes. A step and one
-- that takes nothing out or in are a step that cuts what either cuts; and so are a step that keeps all pages and any step after it.
pub record FrameRule : Type 0 where
  pub flat : (old new : World) (spaces : Spaces) (trip : Trip) (cut : PageName → Bool) (born : set.FinSet nat_cmp) (notes : Notes)
      → MemoryFits (record { world = old; spaces = spaces }) → WorldStep old new spaces trip cut → HasTrip trip notes → NotesFit old notes → AllTell old notes
      → IsFlat (flat_memory (record { world = old; spaces = spaces }) born notes)
      → flat_memory (record { world = new; spaces = spaces }) born (notes_after trip notes) ≡ tails_cleared (flat_memory (record { world = old; spaces = spaces }) born notes) (tails_lost old cut)
  pub joined : (u v w : World) (spaces : Spaces) (trip : Trip) (first second : PageName → Bool)
      → MemoryFits (record { world = u; spaces = spaces }) → WorldStep u v spaces trip first → WorldStep v w spaces stays second
      → WorldStep u w spaces trip (λ name. first name || second name)
  pub later : (u v w : World) (spaces : Spaces) (trip : Trip) (cut : PageName → Bool)
      → MemoryFits (record { world = u; spaces = spaces }) → WorldStep u v spaces stays (λ name. false) → WorldStep v w spaces trip cut
      → WorldStep u w spaces trip cut

-- Flat memory reserves what the segments reserve, where the parts of each space lie in order, whatever the pages hold: the slots that are reserved, and no
-- more than there are.
pub record ReservedLaw : Type 0 where
  pub pages : (m : Memory) (born : set.FinSet nat_cmp) (c : Contents) → ((p : ℕ) (parts : List (Part Segment)) → finite.get m.spaces p ≡ Some parts → IsInOrder 1 parts)
      → reserved (flat_shaped (shape_of m) born c) ≡ reserved_pages m.world.maps m.spaces
  pub slots : (m : Memory) (born : set.FinSet nat_cmp) (notes : Notes) → MemoryFits m → reserved (flat_memory m born notes) ≡ m.world.anon.reserved
  pub room : (m : Memory) (born : set.FinSet nat_cmp) (notes : Notes) → MemoryFits m → reserved (flat_memory m born notes) ≤ length m.world.anon.counts

-- A slot that a place holds is in use; one that is counted once stands at one place; one that isn't in use stands nowhere. Where a place is empty, a slot
-- is left of the reserved ones. And a place that is set takes one from the count of the slot that it held, and adds one to that of the slot that it holds.
pub record CountsLaw : Type 0 where
  pub used : (anon : AnonSlotsSeen) (maps : List (Option Map)) (m i slot : ℕ) → CountsFit anon maps → slot_in maps m i ≡ Some slot → 0 < count_at anon slot
  pub once : (anon : AnonSlotsSeen) (maps : List (Option Map)) (m i n k slot : ℕ) → CountsFit anon maps → count_at anon slot ≡ 1 → slot_in maps m i ≡ Some slot → slot_in maps n k ≡ Some slot → (n ≡ m) × (k ≡ i)
  pub nowhere : (anon : AnonSlotsSeen) (maps : List (Option Map)) (m i slot : ℕ) → CountsFit anon maps → count_at anon slot ≡ 0 → slot_in maps m i ≢ Some slot
  pub room : (anon : AnonSlotsSeen) (maps : List (Option Map)) (m i : ℕ) → CountsFit anon maps → i < length (places_of maps m) → slot_in maps m i ≡ None → slots_in_use anon < anon.reserved
  pub put : (maps : List (Option Map)) (m i slot : ℕ) (o : Option ℕ) → i < length (places_of maps m)
      → times_held (with_places maps m (slice_set (places_of maps m) i o)) slot + (if is_number slot (slot_in maps m i) then 1 else 0) ≡ times_held maps slot + (if is_number slot o then 1 else 0)
