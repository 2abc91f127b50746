-- Places of any mapping, as their faults are served. Inside: no public clause cites this.
use Rattle.std.specs.Prelude.{◌≡◌, ◌<◌, ◌||◌, ℕ, Bool, true, List, length, Option, Some, None, Result, IsTrue}
use Rattle.std.specs.FinSet as set
use Rattle.std.specs.Ordering.{nat_cmp}
use Rattle.seg_ops.specs.anon_map.Maps.{Map, IsMapThere, places_of}
use Rattle.seg_ops.specs.anon_slots.Slots.{count_at}
use Rattle.seg_ops.specs.page_hash.declared.PageName.{PageName}
use Rattle.seg_ops.specs.page_store.Notes.{Notes}
use Rattle.seg_ops.specs.page_store.Seen.{residence}
use Rattle.seg_ops.specs.page_store.Steps.{next_name, next_frame}
use Rattle.seg_ops.specs.page_store.declared.residence.Residence.TheVariants.{Absent}
use Rattle.seg_ops.specs.hat_layer.Pool.{translation_at}
use Rattle.seg_ops.specs.flat_model.Flat.{shown}
use Rattle.seg_ops.specs.flat_model.Words.{Page}
use Rattle.seg_ops.specs.vm_types.Prot.{can_read, can_write}
use Rattle.seg_ops.specs.vm_types.declared.call.Kind.TheVariants.{Private}
use Rattle.seg_ops.specs.vm_types.declared.call.Object.TheVariants as object
use Rattle.seg_ops.specs.vm_world.CallSteps.{ChangesMemory}
use Rattle.seg_ops.specs.vm_world.FlatMemory.{cell_of, flat_memory, own_without_slot, Memory}
use Rattle.seg_ops.specs.vm_world.MemoryFits.{MemoryFits}
use Rattle.seg_ops.specs.vm_world.NotesFit.{NotesFit}
use Rattle.seg_ops.specs.vm_world.Pages.{contents_of}
use Rattle.seg_ops.specs.vm_world.Segments.{Spot, Spaces, spot_at, own_slot, shown_name}
use Rattle.seg_ops.specs.vm_world.TranslationsFit.{MayWriteInPlace}
use Rattle.seg_ops.specs.vm_world.Wants.{shows_page}
use Rattle.seg_ops.specs.vm_world.World.{World, world_seen, slot_in, slot_name, is_unpushed, page_exists, AllTell}
use Rattle.seg_ops.specs.Copies.{HasBytes}
use Rattle.seg_ops.specs.OwnPages.{with_own_shown}
use Rattle.seg_ops.specs.Slots.{GivesSlot, MakesHome, OwnsAlone}
use Rattle.seg_vn.specs.Shown.{ZerosPlace}
use Rattle.seg_ops.specs.vm_world.Serving.{TakesFrames}
use Rattle.seg_ops.specs.page_hash.Names.{name_at}
use Rattle.seg_ops.specs.vm_world.Words.{Fits}
use Rattle.seg_ops.specs.vm_world.declared.segment.Segment.{Segment}
use Rattle.seg_ops.specs.vm_world.declared.wants.Wants.{Wants}
use Rattle.seg_ops.specs.vm_world.declared.world.World as rust
use Rattle.seg_ops.specs.Faults.{FaultServed, FaultServedAt, IsFitAt}
use Rattle.seg_ops.specs.declared.plans.Fault.{Fault}
use Rattle.seg_vn.specs.declared.copy_faults.OwnPlace.{OwnPlace}
use Rattle.seg_vn.specs.declared.segment_faults.PageFault.{PageFault}

-- A place shows this page, which a translation may lead to: a writable one exactly where the page may be written where it is; and a store's is.
pub record PagePlace (w : World) (spaces : Spaces) (p q : ℕ) (x : Spot) (name : PageName) (write writable : Bool) : Type 0 where
  pub here : spot_at spaces p q ≡ Some x
  pub shows : shown_name w.maps x ≡ Some name
  pub some : IsTrue (shows_page w x)
  pub allowed : IsTrue (can_read x.0.prot || can_write x.0.prot)
  pub in_place : writable ≡ true → MayWriteInPlace w.anon w.maps x
  pub opens : MayWriteInPlace w.anon w.maps x → writable ≡ true
  pub lets : write ≡ true → writable ≡ true

-- A place shows zeros, for which a place of a map is made; a writable translation is to be loaded exactly where that is its own one, if it is private.
pub record ZerosShown (w : World) (spaces : Spaces) (p q : ℕ) (x : Spot) (m i : ℕ) (write writable : Bool) : Type 0 where
  pub here : spot_at spaces p q ≡ Some x
  pub bare : own_slot w.maps x ≡ None
  pub zeros : ZerosPlace w spaces x m i
  pub allowed : IsTrue (can_read x.0.prot || can_write x.0.prot)
  pub in_place : writable ≡ true → IsTrue (can_write x.0.prot) × (x.0.kind ≡ Private → x.0.object ≡ object.NewZero)
  pub opens : IsTrue (can_write x.0.prot) × (x.0.kind ≡ Private → x.0.object ≡ object.NewZero) → writable ≡ true
  pub lets : write ≡ true → writable ≡ true

-- A store to a place whose page isn't its own alone: a private place, with its map and what that holds there: nothing, or a slot that other places hold
-- too; and what it shows.
pub record CopyPlace (w : World) (spaces : Spaces) (p q : ℕ) (x : Spot) (m i : ℕ) (slot : Option ℕ) (shown : Option PageName) : Type 0 where
  pub here : spot_at spaces p q ≡ Some x
  pub own : x.0.own ≡ Some m
  pub place : x.1 ≡ i
  pub holds : slot_in w.maps m i ≡ slot
  pub shared : (s : ℕ) → slot ≡ Some s → 1 < count_at w.anon s
  pub bare : slot ≡ None → own_without_slot x.0.object ≡ None
  pub shows : shown_name w.maps x ≡ shown
  pub some : IsTrue (shows_page w x)
  pub allowed : IsTrue (can_write x.0.prot)

-- Where the place holds no slot, its cell shows a page, and as the disks tell it these bytes.
abbrev pub CellShows : World → Spaces → Spot → Option ℕ → Page → Type 0
CellShows w spaces x slot bytes = slot ≡ None → (born : set.FinSet nat_cmp) (notes : Notes)
    → (page : Page) × (shown (flat_memory (record { world = w; spaces = spaces }) born notes) (cell_of (contents_of w notes).place x) ≡ Some page) × (NotesFit w notes → AllTell w notes → page ≡ bytes)

-- What is shown is zeros that no frame holds: a page that was never pushed, or nothing of a zero object.
abbrev pub ShowsZeros : World → Option PageName → Type 0
ShowsZeros w None = Unit {0}
ShowsZeros w (Some name) = (residence w.store name ≡ Absent) × IsTrue (is_unpushed w.files w.anon name) × IsTrue (page_exists w.files w.anon name)

-- The slot is one that other places hold too, and the page is its own.
abbrev pub IsSharedSlot : {D : Type 0} → rust.World D → PageName → ℕ → Type 0
IsSharedSlot w name s = (1 < count_at w.anon s) × (name ≡ slot_name s)

-- The slot is one that other places hold too, and its page has these bytes.
abbrev pub IsCopiedSlot : {D : Type 0} → rust.World D → Page → ℕ → Type 0
IsCopiedSlot w bytes s = (1 < count_at w.anon s) × HasBytes (world_seen w) (slot_name s) bytes

-- The slot is one that other places hold too, and its page is zeros that no frame holds.
abbrev pub IsSharedBlank : {D : Type 0} → rust.World D → ℕ → Type 0
IsSharedBlank w s = (1 < count_at w.anon s) × (residence w.store (slot_name s) ≡ Absent) × IsTrue (is_unpushed w.files w.anon (slot_name s))

-- Frames are taken for other pages: the one that is taken next, where it holds a page.
pub record TakesNext (old : Memory) (new : World) (pending more : ℕ) : Type 0 where
  pub takes : TakesFrames old new pending more
  pub next : (name : PageName) → IsTrue (takes.cut name) → (frame : ℕ) × (next_frame new.store ≡ Some frame) × (name_at old.world.store.names frame ≡ Some name)

-- The place is one of the map, and holds this slot, or none.
pub record IsOwnPlace (maps : List (Option Map)) (own : OwnPlace) : Type 0 where
  pub there : IsMapThere maps own.map
  pub within : own.place < length (places_of maps own.map)
  pub holds : slot_in maps own.map own.place ≡ own.slot

-- The place is a private page's own.
pub record OwnSpot (spaces : Spaces) (p q m i : ℕ) (x : Spot) : Type 0 where
  pub here : spot_at spaces p q ≡ Some x
  pub own : x.0.own ≡ Some m
  pub place : x.1 ≡ i

-- A place of a private page gets a slot of its own, whose page is home in the frame that was taken, and memory fits as before. Where no name held that frame
-- and the place shows these bytes, the cell has in flat memory what it shows as its own, and nothing else changes.
pub record GetsOwn (old new : World) (pending more m i : ℕ) (slot : Option ℕ) (bytes : Page) (s : ℕ) : Type 0 where
  pub gives : GivesSlot old.anon new.anon old.maps new.maps m i s
  pub made : MakesHome old new pending more s
  pub memory : (spaces : Spaces) (p q : ℕ) (x : Spot) → MemoryFits (record { world = old; spaces = spaces }) → OwnsAlone spaces p q m i x → translation_at old.hat.places p q ≡ None
      → MemoryFits (record { world = new; spaces = spaces })
  pub changes : (spaces : Spaces) (p q : ℕ) (x : Spot) → MemoryFits (record { world = old; spaces = spaces }) → OwnsAlone spaces p q m i x → translation_at old.hat.places p q ≡ None
      → next_name old.store ≡ None → CellShows old spaces x slot bytes
      → ChangesMemory p (record { world = old; spaces = spaces }) (record { world = new; spaces = spaces }) (λ F. with_own_shown F p q)

-- The place is the own one of this page of some process.
abbrev pub IsOwnSpot : {D : Type 0} → rust.World D → ℕ → ℕ → OwnPlace → Type 0
IsOwnSpot w p q own = (spaces : Spaces) × (x : Spot) × Fits w spaces × OwnSpot spaces p q own.map own.place x

-- The own place gets a slot, with these bytes, by the world before and after.
abbrev pub GivesOwn : {D : Type 0} → rust.World D → rust.World D → OwnPlace → Page → ℕ → Type 0
GivesOwn old new own bytes s = GetsOwn (world_seen old) (world_seen new) old.pending new.pending own.map own.place own.slot bytes s

-- What a store comes to that needs a slot for the own place of its page, whatever the spaces.
abbrev pub ServesCopy : {D : Type 0} → rust.World D → rust.World D → ℕ → ℕ → OwnPlace → Option PageName → Result Fault Wants → Type 0
ServesCopy old new p q own shown answer =
    (spaces : Spaces) (x : Spot) → Fits old spaces → CopyPlace (world_seen old) spaces p q x own.map own.place own.slot shown → FaultServed old new spaces p q x true answer

-- The place of a segment at which a fault is.
abbrev pub faulted_spot : Segment → PageFault → Spot
faulted_spot s fault = (s, fault.place)

-- The world fits where the page of the fault shows its place of the segment.
abbrev pub IsFaultAt : {D : Type 0} → rust.World D → Segment → PageFault → Type 0
IsFaultAt w s fault = IsFitAt w fault.process fault.page (faulted_spot s fault)

-- What the fault comes to, whatever the spaces in which its page shows the place of the segment.
abbrev pub ServesAt : {D : Type 0} → rust.World D → rust.World D → Segment → PageFault → Result Fault Wants → Type 0
ServesAt old new s fault answer = FaultServedAt old new fault.process fault.page (faulted_spot s fault) fault.write answer

-- The place of the fault shows zeros, for which this place of this map is, in some spaces.
abbrev pub IsZerosAt : {D : Type 0} → rust.World D → Segment → PageFault → ℕ → ℕ → Type 0
IsZerosAt w s fault map place = (spaces : Spaces) × Fits w spaces × (spot_at spaces fault.process fault.page ≡ Some (faulted_spot s fault)) × ZerosPlace (world_seen w) spaces (faulted_spot s fault) map place

-- What a fault comes to whose place shows zeros, for which this place of this map is, whatever the
-- spaces.
abbrev pub ServesZeros : {D : Type 0} → rust.World D → rust.World D → Segment → PageFault → ℕ → ℕ → Result Fault Wants → Type 0
ServesZeros old new s fault map place answer = (spaces : Spaces) → Fits old spaces → spot_at spaces fault.process fault.page ≡ Some (faulted_spot s fault) → ZerosPlace (world_seen old) spaces (faulted_spot s fault) map place
    → FaultServed old new spaces fault.process fault.page (faulted_spot s fault) fault.write answer
