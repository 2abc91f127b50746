-- Where an access makes a slot. Public clauses cite this.
use Rattle.std.specs.Prelude.{◌≡◌, ℕ, ◌+◌, ◌==◌, ◌&&◌, Bool, false, not, List, Option, Some, None, Result, Ok, Err, if◌then◌else◌, option_map}
use Rattle.page_store.specs.page_hash.declared.PageName.{PageName}
use Rattle.vm_world.specs.anon_map.Maps.{Map}
use Rattle.vm_world.specs.anon_slots.Slots.{AnonSlotsSeen, count_at}
use Rattle.vm_world.specs.vm_types.declared.call.Kind.{Kind}
use Rattle.vm_world.specs.vm_types.declared.call.Kind.TheVariants.{Shared, Private}
use Rattle.vm_world.specs.vm_types.declared.call.Object.{Object}
use Rattle.vm_world.specs.vm_types.declared.call.Object.TheVariants as object
use Rattle.vm_world.specs.Segments.{Spot, own_slot, shown_name}
use Rattle.vm_world.specs.World.{World}
use Rattle.seg_ops.specs.Slots.{GivesSlot}
use Rattle.seg_ops.specs.declared.plans.Fault.{Fault}
use Rattle.seg_ops.specs.declared.plans.Fault.TheVariants.{Loaded, Past}
use Rattle.vm_world.specs.declared.wants.Wants.{Wants}

-- A place of an anon map: the map's number, and the place's.
abbrev pub MapPlace : Type 0
MapPlace = ℕ × ℕ

-- The place holds a slot that no other place holds.
abbrev pub holds_alone : AnonSlotsSeen → Option ℕ → Bool
holds_alone anon None = false
holds_alone anon (Some slot) = count_at anon slot == 1

-- A store to a page whose own place holds this makes a slot there: if the page is private, and that is no slot, or one that other places hold too.
abbrev pub makes_own : AnonSlotsSeen → Option ℕ → Kind → Bool
makes_own anon held Shared = false
makes_own anon held Private = not (holds_alone anon held)

-- The own place of a page; a shared one has none.
abbrev pub own_map_place : Spot → Option MapPlace
own_map_place x = option_map (λ (number : ℕ). (number, x.1)) x.0.own

-- The place that holds the slot of what an object shows at a page: that of the zero object's map; the page's own, of new zero memory; none, of a file.
abbrev pub object_map_place : Spot → Object → Option MapPlace
object_map_place x (object.Zero z) = option_map (λ (number : ℕ). (number, x.0.index + x.1)) x.0.shown
object_map_place x object.NewZero = own_map_place x
object_map_place x (object.File f) = None

-- Where no page is shown, an access makes a slot for what the object shows.
abbrev pub zeros_due : Spot → Option PageName → Option MapPlace
zeros_due x None = object_map_place x x.0.object
zeros_due x (Some name) = None

-- WHERE AN ACCESS MAKES A SLOT, if it makes one, of a page that isn't past its object's end: a store that mayn't write the page in place, for the page's own
-- place, if it is private; and any other access that meets zeros which have no slot, for the zero object's place, or for that of new zero memory.
abbrev pub slot_due : AnonSlotsSeen → List (Option Map) → Spot → Bool → Option MapPlace
slot_due anon maps x write = if write && makes_own anon (own_slot maps x) x.0.kind then own_map_place x else zeros_due x (shown_name maps x)

-- Every slot and every place is as it was.
pub record KeepsSlots (old new : World) : Type 0 where
  pub counts : new.anon ≡ old.anon
  pub places : new.maps ≡ old.maps

-- The place, if there is one, got a slot that no place held; else every slot and every place is as it was.
abbrev pub MakesSlotAt : World → World → Option MapPlace → Type 0
MakesSlotAt old new None = KeepsSlots old new
MakesSlotAt old new (Some place) = (slot : ℕ) × GivesSlot old.anon new.anon old.maps new.maps place.0 place.1 slot

-- What a fault leaves of slots: a slot is made once the page is loaded, exactly where one is due.
abbrev pub SlotsAfter : World → World → Spot → Bool → Result Fault Wants → Type 0
SlotsAfter old new x write (Ok Loaded) = MakesSlotAt old new (slot_due old.anon old.maps x write)
SlotsAfter old new x write (Ok Past) = KeepsSlots old new
SlotsAfter old new x write (Err want) = KeepsSlots old new
