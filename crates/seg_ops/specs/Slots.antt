-- Slots that are made for places of anon maps, with their pages. Public clauses cite this.
use Rattle.std.specs.Prelude.{◌≡◌, ◌≢◌, ◌↔◌, ◌<◌, ◌≤◌, ◌+◌, ◌-◌, ℕ, Bool, false, List, length, Option, Some, None, IsTrue, IfSome, slice_index_or, slice_set}
use Rattle.std.specs.FinMap as finite
use Rattle.std.specs.Option.{option_map_or}
use Rattle.page_store.specs.page_hash.declared.PageName.{PageName}
use Rattle.page_store.specs.page_hash.Names.{is_name}
use Rattle.page_store.specs.Notes.{Notes}
use Rattle.page_store.specs.Seen.{residence, IsListedFrame}
use Rattle.page_store.specs.Steps.{next_frame, next_name}
use Rattle.page_store.specs.declared.residence.Residence.TheVariants.{Home}
use Rattle.vm_world.specs.addr_space.Space.{Part, begins}
use Rattle.vm_world.specs.anon_map.Maps.{Map, holders_of, places_of, with_places}
use Rattle.vm_world.specs.anon_slots.Slots.{AnonSlotsSeen, count_at, with_count, with_new_slot}
use Rattle.vm_world.specs.flat_model.Access.{with_cell}
use Rattle.vm_world.specs.flat_model.Flat.{Flat, cell_at}
use Rattle.vm_world.specs.flat_model.Words.{Page}
use Rattle.vm_world.specs.vm_types.declared.call.Object.TheVariants as object
use Rattle.vm_world.specs.CountsFit.{CountsFit}
use Rattle.vm_world.specs.FlatMemory.{Memory, zero_maps}
use Rattle.vm_world.specs.MemoryFits.{MemoryFits}
use Rattle.vm_world.specs.NotesFit.{NotesFit}
use Rattle.vm_world.specs.Pages.{page_value}
use Rattle.vm_world.specs.Segments.{Spaces, Spot, spot_at}
use Rattle.vm_world.specs.Serving.{LosesFrame, ModifiesOnly}
use Rattle.vm_world.specs.StateSteps.{PendsTails}
use Rattle.vm_world.specs.World.{World, core_of, slot_name, slot_in, world_table, page_exists, AllTell}
use Rattle.vm_world.specs.declared.segment.Segment.{Segment}
use Rattle.vm_world.specs.WorldSteps.{cut_page}

-- A slot that no place held is held by one; each other slot is in use where it was, and one that a single place held still is; the slot was never pushed,
-- and each other was where it was; nothing is reserved or given up; and the counts fit the maps.
pub record MakesSlot (old new : AnonSlotsSeen) (maps put : List (Option Map)) (m i s : ℕ) : Type 0 where
  pub within : i < length (places_of maps m)
  pub set : put ≡ with_places maps m (slice_set (places_of maps m) i (Some s))
  pub there : s < length old.counts
  pub free : count_at old s ≡ 0
  pub alone : count_at new s ≡ 1
  pub used : (t : ℕ) → t ≢ s → 0 < count_at old t → 0 < count_at new t
  pub unused : (t : ℕ) → t ≢ s → count_at old t ≡ 0 → count_at new t ≡ 0
  pub once : (t : ℕ) → t ≢ s → count_at old t ≡ 1 → count_at new t ≡ 1
  pub slots : length new.counts ≡ length old.counts
  pub fresh : slice_index_or new.swapped s false ≡ false
  pub swapped : (t : ℕ) → t ≢ s → slice_index_or new.swapped t false ≡ slice_index_or old.swapped t false
  pub reserved : new.reserved ≡ old.reserved
  pub counts : CountsFit new put

-- The slots once the slot that a place held, if it held one, is counted once less.
abbrev pub anon_left : AnonSlotsSeen → Option ℕ → AnonSlotsSeen
anon_left anon None = anon
anon_left anon (Some s) = with_count anon s (count_at anon s - 1)

-- A place gets a slot that no place held: it is counted there alone, and was never pushed; the slot that the place held before, if it held one, is counted
-- once less; and every other slot and every other place is as it was.
pub record GivesSlot (old new : AnonSlotsSeen) (maps put : List (Option Map)) (m i s : ℕ) : Type 0 where
  pub free : count_at old s ≡ 0
  pub alone : count_at new s ≡ 1
  pub counts : new ≡ with_new_slot (anon_left old (slot_in maps m i)) s
  pub set : put ≡ with_places maps m (slice_set (places_of maps m) i (Some s))

-- A slot that no place held is made, and its page is home in the frame that was taken next, on neither list. The name that this frame held lost it, and the
-- tail of the file whose last page that was is pending. No other page becomes modified.
pub record MakesHome (old new : World) (pending more slot : ℕ) : Type 0 where
  pub free : count_at old.anon slot ≡ 0
  pub once : count_at new.anon slot ≡ 1
  pub home : IfSome (next_frame old.store) (λ frame. (residence new.store (slot_name slot) ≡ Home frame) × (¬ IsListedFrame new.store frame))
  pub took : IfSome (next_name old.store) (λ name. LosesFrame old new name)
  pub pends : PendsTails old (is_name (next_name old.store)) pending more
  pub modified : ModifiesOnly (λ name. name ≡ slot_name slot) old new

-- A slot is made for a place, with its page, in a frame that is taken. Files, disks and translations stay; memory and the notes fit as before, and disks
-- tell where they told; the slot's page has these bytes; and each page that existed keeps its value, but that the names of taken frames may be cut at
-- their valid bytes. These pages are whole.
pub record MakesPage (old new : World) (spaces : Spaces) (cut : PageName → Bool) (m i s : ℕ) (bytes : Page) : Type 0 where
  pub slot : MakesSlot old.anon new.anon old.maps new.maps m i s
  pub files : new.files ≡ old.files
  pub hat : new.hat ≡ old.hat
  pub core : core_of new.store ≡ core_of old.store
  pub frames : length new.store.frames ≡ length old.store.frames
  pub bays : new.store.bays ≡ old.store.bays
  pub memory : MemoryFits (record { world = new; spaces = spaces })
  pub notes : (notes : Notes) → NotesFit old notes → NotesFit new notes
  pub tells : (notes : Notes) → NotesFit old notes → AllTell old notes ↔ AllTell new notes
  pub whole : (notes : Notes) (name : PageName) → NotesFit old notes → AllTell old notes → IsTrue (page_exists old.files old.anon name)
      → IsTrue (cut name) → length (page_value old notes name) ≡ 4096
  pub page : (notes : Notes) → NotesFit old notes → page_value new notes (slot_name s) ≡ bytes
  pub pages : (notes : Notes) (name : PageName) → NotesFit old notes → AllTell old notes → IsTrue (page_exists old.files old.anon name)
      → page_value new notes name ≡ cut_page (cut name) (world_table old name).valid (page_value old notes name)

-- Each page of which the place is the own place is new zero memory.
abbrev pub IsNewZero : Spaces → ℕ → ℕ → Type 0
IsNewZero spaces m i = (p q : ℕ) (x : Spot) → spot_at spaces p q ≡ Some x → x.0.own ≡ Some m → x.1 ≡ i → x.0.object ≡ object.NewZero

-- The place is the own place of one page alone, and no zero object has its map.
pub record OwnsAlone (spaces : Spaces) (p q m i : ℕ) (x : Spot) : Type 0 where
  pub here : spot_at spaces p q ≡ Some x
  pub own : x.0.own ≡ Some m
  pub place : x.1 ≡ i
  pub alone : (r k : ℕ) (y : Spot) → spot_at spaces r k ≡ Some y → y.0.own ≡ Some m → y.1 ≡ i → (r ≡ p) × (k ≡ q)
  pub hidden : (z number : ℕ) → finite.get (zero_maps spaces) z ≡ Some number → number ≢ m

-- Flat memory with a page of its own for the cell at a page of a process.
abbrev pub with_own_page : Flat → ℕ → ℕ → Page → Flat
with_own_page F p q new = option_map_or (λ c. with_cell F p q (record c { own = Some new })) (cell_at F p q) F

-- Where memory fits, the own place of a page is that of this page alone; that of a page of new zero memory is one of new zero memory; and so is each place
-- of a zero object's map, which is no page's own. Where such a map has one holder, the pages of one part alone show it.
pub record PlacesLaw : Type 0 where
  pub alone : (m : Memory) (p q number : ℕ) (x : Spot) → MemoryFits m → spot_at m.spaces p q ≡ Some x → x.0.own ≡ Some number
      → OwnsAlone m.spaces p q number x.1 x
  pub zeros : (m : Memory) (p q number : ℕ) (x : Spot) → MemoryFits m → spot_at m.spaces p q ≡ Some x → x.0.own ≡ Some number
      → x.0.object ≡ object.NewZero → IsNewZero m.spaces number x.1
  pub shown : (m : Memory) (z number i : ℕ) → MemoryFits m → finite.get (zero_maps m.spaces) z ≡ Some number → IsNewZero m.spaces number i
  pub last : (m : Memory) (p first number : ℕ) (parts : List (Part Segment)) (a : Part Segment) → MemoryFits m → finite.get m.spaces p ≡ Some parts
      → begins parts first ≡ Some a → a.piece.shown ≡ Some number → holders_of m.world.maps number ≡ 1
      → (r k : ℕ) (y : Spot) → spot_at m.spaces r k ≡ Some y → y.0.shown ≡ Some number → (r ≡ p) × (a.first ≤ k) × (k < a.first + a.pages)
