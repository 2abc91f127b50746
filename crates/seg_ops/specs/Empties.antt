-- Places of anon maps that are emptied. Public clauses cite this.
use Rattle.std.specs.Prelude.{◌≡◌, ◌≢◌, ◌↔◌, ◌<◌, ◌+◌, ℕ, zero, suc, List, length, Option, Some, None, IsTrue, slice_set}
use Rattle.std.specs.FinMap as finite
use Rattle.page_store.specs.page_hash.declared.PageName.{PageName}
use Rattle.page_store.specs.Notes.{Notes}
use Rattle.vm_world.specs.anon_map.Maps.{Map, places_of, with_places}
use Rattle.vm_world.specs.anon_slots.Slots.{AnonSlotsSeen, count_at}
use Rattle.vm_world.specs.hat_layer.Pool.{translation_at}
use Rattle.vm_world.specs.hat_layer.declared.translation.Translation.{Translation}
use Rattle.vm_world.specs.CallSteps.{KeepsMachine}
use Rattle.vm_world.specs.CountsFit.{CountsFit}
use Rattle.vm_world.specs.FlatMemory.{zero_maps}
use Rattle.vm_world.specs.MemoryFits.{MemoryFits}
use Rattle.vm_world.specs.NotesFit.{NotesFit}
use Rattle.vm_world.specs.Pages.{file_contents, page_value, place_contents}
use Rattle.vm_world.specs.declared.segment.Segment.{Segment}
use Rattle.vm_world.specs.Segments.{Spaces, Spot, spot_at}
use Rattle.vm_world.specs.SpaceSteps.{AreUnloaded}
use Rattle.vm_world.specs.World.{World, core_of, slot_name, slot_in, page_exists, AllTell}

-- A place is emptied: its slot is counted once less, and each other slot as before; no page was pushed; nothing is reserved or given up; and the counts fit
-- the maps.
pub record LeavesSlot (old new : AnonSlotsSeen) (maps put : List (Option Map)) (m i s : ℕ) : Type 0 where
  pub within : i < length (places_of maps m)
  pub set : put ≡ with_places maps m (slice_set (places_of maps m) i None)
  pub held : slot_in maps m i ≡ Some s
  pub less : count_at new s + 1 ≡ count_at old s
  pub others : (t : ℕ) → t ≢ s → count_at new t ≡ count_at old t
  pub slots : length new.counts ≡ length old.counts
  pub swapped : new.swapped ≡ old.swapped
  pub reserved : new.reserved ≡ old.reserved
  pub counts : CountsFit new put

-- A place is emptied, which held this slot. Files, disks and translations stay; memory and the notes fit as before, and disks tell where they told; and each
-- page keeps its value, the slot's where it still exists.
pub record EmptiesPlace (old new : World) (spaces : Spaces) (m i s : ℕ) : Type 0 where
  pub slot : LeavesSlot old.anon new.anon old.maps new.maps m i s
  pub files : new.files ≡ old.files
  pub hat : new.hat ≡ old.hat
  pub core : core_of new.store ≡ core_of old.store
  pub frames : length new.store.frames ≡ length old.store.frames
  pub bays : new.store.bays ≡ old.store.bays
  pub memory : MemoryFits (record { world = new; spaces = spaces })
  pub notes : (notes : Notes) → NotesFit old notes → NotesFit new notes
  pub tells : (notes : Notes) → NotesFit old notes → AllTell old notes ↔ AllTell new notes
  pub pages : (notes : Notes) (name : PageName) → NotesFit old notes → AllTell old notes → (name ≡ slot_name s → IsTrue (page_exists new.files new.anon name))
      → page_value new notes name ≡ page_value old notes name

-- Places of a map are emptied, which are told. Files, disks and translations stay, and so do the lengths of the maps; memory and the notes fit as before, and
-- disks tell where they told; each other place holds the slot that it held; and the pages of files, and what each other place holds, are as they were.
pub record EmptiesPlaces (old new : World) (spaces : Spaces) (m : ℕ) (emptied : ℕ → Type 0) : Type 0 where
  pub machine : KeepsMachine old new
  pub files : new.files ≡ old.files
  pub lengths : (number : ℕ) → length (places_of new.maps number) ≡ length (places_of old.maps number)
  pub memory : MemoryFits (record { world = new; spaces = spaces })
  pub notes : (notes : Notes) → NotesFit old notes → NotesFit new notes
  pub tells : (notes : Notes) → NotesFit old notes → AllTell old notes ↔ AllTell new notes
  pub pages : (notes : Notes) (f index : ℕ) → NotesFit old notes → AllTell old notes → file_contents (page_value new notes) f index ≡ file_contents (page_value old notes) f index
  pub none : (i : ℕ) → emptied i → slot_in new.maps m i ≡ None
  pub kept : (number i : ℕ) → (number ≡ m → emptied i → ⊥) → slot_in new.maps number i ≡ slot_in old.maps number i
  pub others : (notes : Notes) (number i : ℕ) → NotesFit old notes → AllTell old notes → (number ≡ m → emptied i → ⊥)
      → place_contents (page_value new notes) new.maps number i ≡ place_contents (page_value old notes) old.maps number i

-- The places with none of the n from a place on holding a slot.
abbrev pub places_emptied : List (Option ℕ) → ℕ → ℕ → List (Option ℕ)
places_emptied places from zero = places
places_emptied places from (suc n) = slice_set (places_emptied places from n) (from + n) None

-- The n places of an anon map from one on are the own places of the pages of a process from the first on, which are one segment's and have no translation.
pub record OwnsPlaces (translations : List (Option Translation)) (spaces : Spaces) (p first m from n : ℕ) : Type 0 where
  pub segment : Segment
  pub own : segment.own ≡ Some m
  pub here : (j : ℕ) → j < n → spot_at spaces p (first + j) ≡ Some (segment, from + j)
  pub unloaded : AreUnloaded translations p first n

-- The map is that of a zero object, and no page that shows it has a translation.
pub record IsUnloadedZero (translations : List (Option Translation)) (spaces : Spaces) (z m : ℕ) : Type 0 where
  pub zero : finite.get (zero_maps spaces) z ≡ Some m
  pub unloaded : (p q : ℕ) (x : Spot) → spot_at spaces p q ≡ Some x → x.0.shown ≡ Some m → translation_at translations p q ≡ None
