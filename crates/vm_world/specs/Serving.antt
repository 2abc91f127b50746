-- How a call is served: first frames may be taken for other pages, and then the call is done, or it waits. Public clauses cite this.
use Rattle.std.specs.Prelude.{◌≡◌, ◌≢◌, ◌⊎◌, ◌<◌, ◌+◌, ◌%◌, ℕ, Bool, false, List, length, Option, Some, None, IsTrue, IsFalse, slice_index_or}
use Rattle.anon_slots.specs.Slots.{AnonSlotsSeen}
use Rattle.page_store.specs.page_hash.Names.{name_at}
use Rattle.page_store.specs.page_hash.declared.PageName.{PageName}
use Rattle.page_store.specs.Seen.{StoreSeen, residence, IsListedFrame}
use Rattle.page_store.specs.declared.plan.Hold.{Hold}
use Rattle.page_store.specs.declared.plan.Hold.TheVariants as hold
use Rattle.page_store.specs.declared.plan.Plan.{Plan}
use Rattle.page_store.specs.declared.residence.Residence.TheVariants.{Home}
use Rattle.hat_layer.specs.declared.translation.Translation.{Translation}
use Rattle.flat_model.specs.vm_types.declared.call.Call.{Call}
use Rattle.flat_model.specs.vm_types.declared.call.Call.TheVariants.{Load, Store, Write, Truncate}
use Rattle.flat_model.specs.vm_types.declared.call.Reply.{Reply}
use Rattle.flat_model.specs.vm_types.declared.call.Reply.TheVariants.{Word, Done, Synced}
use Rattle.flat_model.specs.vm_types.Parts.{file_of_call}
use Rattle.flat_model.specs.vnode_files.Files.{vnode_at}
use Rattle.flat_model.specs.Words.{page, page_size}
use Rattle.vm_world.specs.CallSteps.{ActsOnMemory}
use Rattle.vm_world.specs.FlatMemory.{Memory}
use Rattle.vm_world.specs.Plans.{CanRunPlan, MayMeetFault, IsRefusal, refusal_in}
use Rattle.vm_world.specs.Segments.{Spot, spot_at, shown_name}
use Rattle.vm_world.specs.StateSteps.{PendsTails}
use Rattle.vm_world.specs.TranslationsFit.{IsModified, IsRewritten}
use Rattle.vm_world.specs.Wants.{WantsHome, WantsClean, IsGapPage, IsCutPage, HoldsUp, IsCleanPage}
use Rattle.vm_world.specs.World.{World, file_name, page_exists, slot_name}
use Rattle.vm_world.specs.WorldSteps.{stays, WorldStep}
use Rattle.vm_world.specs.declared.wants.Wants.{Wants}
use Rattle.vm_world.specs.declared.wants.Wants.TheVariants.{Transfer, Seat}

-- The name lost its frame: one that held it doesn't hold it any more.
pub record LosesFrame (old new : World) (name : PageName) : Type 0 where
  pub frame : ℕ
  pub held : name_at old.store.names frame ≡ Some name
  pub taken : name_at new.store.names frame ≢ Some name

-- A step of the world that cuts only names which lose their frame, with the tails that are pending before and after.
pub record TakesFrames (old : Memory) (new : World) (pending more : ℕ) : Type 0 where
  pub cut : PageName → Bool
  pub step : WorldStep old.world new old.spaces stays cut
  pub pends : PendsTails old.world cut pending more
  pub took : (name : PageName) → IsTrue (cut name) → LosesFrame old.world new name

-- The page of a name was replaced: the frame that held it holds another one.
pub record IsReplaced (old new : World) (name : PageName) : Type 0 where
  pub frame : ℕ
  pub other : PageName
  pub held : name_at old.store.names frame ≡ Some name
  pub taken : name_at new.store.names frame ≡ Some other
  pub differs : other ≢ name

-- Each page that was cut is replaced, as the event is over.
abbrev pub AreReplaced : World → World → (PageName → Bool) → Type 0
AreReplaced old new cut = (name : PageName) → IsTrue (cut name) → IsReplaced old new name

-- WHAT MUST COME FIRST of a call: a transfer that may be answered to it and can run; or what holds it up, where the files' calls are these seats'.
abbrev pub IsWanted : Memory → List (Option ℕ) → ℕ → Call → Wants → Type 0
IsWanted m calls p call (Transfer plan) = CanRunPlan m (Some (p, call)) plan
IsWanted m calls p call (Seat h) = HoldsUp m calls p call h

-- What may be said of the page in a frame: that it is modified, or that it counts as rewritten.
abbrev pub PageBit : Type 1
PageBit = StoreSeen → List (Option Translation) → ℕ → Type 0

-- Each home page of which this is said was home before, in its frame, and it was said of it.
abbrev pub SaysNone : PageBit → World → World → Type 0
SaysNone bit old new = (name : PageName) (frame : ℕ) → residence new.store name ≡ Home frame → bit new.store new.hat.places frame
    → (residence old.store name ≡ Home frame) × bit old.store old.hat.places frame

-- Each home page of which this is said, but for those that may, was home before, in its frame, and
-- it was said of it.
abbrev pub SaysOnly : PageBit → (PageName → Type 0) → World → World → Type 0
SaysOnly bit may old new = (name : PageName) (frame : ℕ) → residence new.store name ≡ Home frame → bit new.store new.hat.places frame
    → may name ⊎ ((residence old.store name ≡ Home frame) × bit old.store old.hat.places frame)

-- No page is modified that wasn't, and none counts as rewritten since its snapshot that didn't: one that is on its way to its disk isn't pushed again.
pub record ModifiesNone (old new : World) : Type 0 where
  pub modified : SaysNone IsModified old new
  pub rewritten : SaysNone IsRewritten old new

-- Each page that is modified was so before, in its frame, and each that counts as rewritten did, but for pages of which this holds.
pub record ModifiesOnly (may : PageName → Type 0) (old new : World) : Type 0 where
  pub modified : SaysOnly IsModified may old new
  pub rewritten : SaysOnly IsRewritten may old new

-- The page of a slot that was never pushed: wherever it is home, it is modified.
abbrev pub IsUnpushedSlot : AnonSlotsSeen → PageName → Type 0
IsUnpushedSlot anon name = (slot : ℕ) × (name ≡ slot_name slot) × (slice_index_or anon.swapped slot false ≡ false)

-- A page of a process shows the page of this name.
abbrev pub ShowsThere : Memory → ℕ → ℕ → PageName → Type 0
ShowsThere m p q name = (x : Spot) × (spot_at m.spaces p q ≡ Some x) × (shown_name m.world.maps x ≡ Some name)

-- WHICH PAGES A CALL MAKES MODIFIED, or count as rewritten, if any, once it is done with this reply: a store the one that its place shows then, and a load that one only
-- where it is the page of a slot that was never pushed; a part of a write the page that gets its bytes, and where it made the file longer the old last one; and
-- a Truncate the old last page or the new one. No other call makes one.
abbrev pub MayModify : Memory → Memory → ℕ → Call → Reply → PageName → Type 0
MayModify old new p (Load a n) (Word word) name = ShowsThere new p (page a) name × IsUnpushedSlot new.world.anon name
MayModify old new p (Store a n v) Done name = ShowsThere new p (page a) name
MayModify old new p (Write file offset line rest) Done name = (name ≡ file_name file (page offset)) ⊎ IsGapPage old.world file (offset + length line) name
MayModify old new p (Truncate file end) Done name = IsGapPage old.world file end name ⊎ IsCutPage old.world file end name
MayModify old new p call reply name = ⊥

-- The call is done with this reply, whatever tails its entry takes: frames may be taken for other pages, and then it acts. The signal or errno of the reply,
-- or that it has none, is what was due. No page is modified that wasn't, and none counts as rewritten that didn't, but one that the call may make so. Where a
-- Sync is answered, each page that it wants clean is.
pub record ServesDone (old new : Memory) (pending more p : ℕ) (call : Call) (reply : Reply) : Type 0 where
  pub mid : World
  pub first : TakesFrames old mid pending more
  pub acts : (cleared : ℕ) → ActsOnMemory (record old { world = mid }) new (record { process = p; call = call; reply = reply; cleared = cleared })
  pub replaced : AreReplaced old.world new.world first.cut
  pub refusal : IsRefusal old p call (refusal_in reply)
  pub modified : ModifiesOnly (MayModify old new p call reply) old.world new.world
  pub clean : (from : ℕ) (name : PageName) → reply ≡ Synced from → WantsClean new p call name → IsCleanPage new.world name

-- Each page that the call wants home and that a home frame held is still there, on neither list.
abbrev pub KeepsWanted : Memory → Memory → ℕ → Call → Type 0
KeepsWanted old new p call = (name : PageName) (frame : ℕ) → WantsHome new p call name → residence old.world.store name ≡ Home frame
    → (residence new.world.store name ≡ Home frame) × (¬ IsListedFrame new.world.store frame)

-- The call needs a transfer first: one that may be answered to it, and can run. No signal or errno was due. Where the call is one on a file, the files are as
-- they were, with their blank pages.
pub record ServesNeed (old new : Memory) (pending more p : ℕ) (call : Call) (plan : Plan) : Type 0 where
  pub first : TakesFrames old new.world pending more
  pub replaced : AreReplaced old.world new.world first.cut
  pub spaces : new.spaces ≡ old.spaces
  pub runs : CanRunPlan new (Some (p, call)) plan
  pub fault : MayMeetFault new p call
  pub refusal : IsRefusal old p call None
  pub wanted : KeepsWanted old new p call
  pub files : (f : ℕ) → file_of_call call ≡ Some f → new.world.files ≡ old.world.files
  pub modified : ModifiesNone old.world new.world

-- The hold isn't that of a file's call.
abbrev pub IsNoFile : Hold → Type 0
IsNoFile (hold.Page t) = Unit {0}
IsNoFile (hold.Disk t) = Unit {0}
IsNoFile (hold.File t) = ⊥

-- The call has to wait for what holds it up, where the files' calls are these seats'. No signal or errno was due; a file's call alone is waited for before
-- it is known whether one is.
pub record ServesBusy (old new : Memory) (pending more : ℕ) (calls : List (Option ℕ)) (p : ℕ) (call : Call) (h : Hold) : Type 0 where
  pub first : TakesFrames old new.world pending more
  pub replaced : AreReplaced old.world new.world first.cut
  pub spaces : new.spaces ≡ old.spaces
  pub holds : HoldsUp new calls p call h
  pub refusal : IsNoFile h → IsRefusal old p call None
  pub modified : ModifiesNone old.world new.world
