-- Calls that are done on pages, as events. Public clauses cite this.
use Rattle.std.specs.Prelude.{◌≡◌, ◌≢◌, ◌↔◌, ℕ, suc, List, length, map, Option, None, IsSome, IsFalse}
use Rattle.std.specs.FinMap as finite
use Rattle.std.specs.FinSet as set
use Rattle.std.specs.Ordering.{nat_cmp}
use Rattle.flat_model.specs.vm_types.declared.call.Call.{Call}
use Rattle.flat_model.specs.vm_types.declared.call.Call.TheVariants.{Fork, Sync}
use Rattle.flat_model.specs.vm_types.declared.call.Entry.{Entry}
use Rattle.flat_model.specs.vm_types.declared.call.Reply.{Reply}
use Rattle.flat_model.specs.vm_types.declared.call.Reply.TheVariants.{Synced}
use Rattle.page_store.specs.page_hash.declared.PageName.{PageName}
use Rattle.flat_model.specs.vm_types.WellFormed.{IsWellFormed}
use Rattle.page_store.specs.Notes.{Notes}
use Rattle.flat_model.specs.Flat.{Flat, IsFlat}
use Rattle.flat_model.specs.History.{IsStart, is_io}
use Rattle.flat_model.specs.Shapes.{RespectsShape, SameShape}
use Rattle.flat_model.specs.Step.{IsDue, after_act}
use Rattle.vm_world.specs.declared.sync_start.SyncStart.{SyncStart}
use Rattle.vm_world.specs.EntryLaws.{LocksAfter, StartsAfter, MayUseFile}
use Rattle.vm_world.specs.Events.{IsEvent, CanTry}
use Rattle.vm_world.specs.Failures.{with_entry_made}
use Rattle.vm_world.specs.FlatMemory.{Memory, flat_memory}
use Rattle.vm_world.specs.HistoryFits.{is_exit}
use Rattle.vm_world.specs.Marks.{MarksSeen}
use Rattle.vm_world.specs.MemoryFits.{MemoryFits}
use Rattle.vm_world.specs.NotesFit.{NotesFit}
use Rattle.vm_world.specs.Plans.{IsRefusal, refusal_in}
use Rattle.vm_world.specs.Segments.{Spaces}
use Rattle.vm_world.specs.State.{KernelState, mode_of}
use Rattle.vm_world.specs.StateEntries.{marks_answered}
use Rattle.vm_world.specs.StateSyncs.{AreWanted, AreWantedClean, marks_all_risen}
use Rattle.vm_world.specs.Wants.{WantsClean, IsCleanPage}
use Rattle.vm_world.specs.World.{World, core_of, AllTell}
use Rattle.vm_world.specs.WorldSteps.{KeepsTables}

-- A call is done on pages alone: no table, disk or frame moves; memory and the notes fit as before; and in flat memory, as the disks tell it, the entry is
-- due, and flat memory is then what its call makes of it; and whatever disks tell, what its call makes of flat memory has the same shape.
pub record ActsOnPages (old new : World) (spaces : Spaces) (e : Entry) : Type 0 where
  pub tables : KeepsTables old new
  pub core : core_of new.store ≡ core_of old.store
  pub frames : length new.store.frames ≡ length old.store.frames
  pub bays : new.store.bays ≡ old.store.bays
  pub memory : MemoryFits (record { world = new; spaces = spaces })
  pub notes : (notes : Notes) → NotesFit old notes → NotesFit new notes
  pub tells : (notes : Notes) → NotesFit old notes → AllTell old notes ↔ AllTell new notes
  pub acts : (born : set.FinSet nat_cmp) (notes : Notes) → NotesFit old notes → AllTell old notes → IsFlat (flat_memory (record { world = old; spaces = spaces }) born notes)
      → IsDue (flat_memory (record { world = old; spaces = spaces }) born notes) e
      × (flat_memory (record { world = new; spaces = spaces }) born notes ≡ after_act (flat_memory (record { world = old; spaces = spaces }) born notes) e)
  pub shaped : (born : set.FinSet nat_cmp) (notes : Notes)
      → SameShape (after_act (flat_memory (record { world = old; spaces = spaces }) born notes) e) (flat_memory (record { world = old; spaces = spaces }) born notes)

-- What no call changes: the core of the frames and the order of the disks, the number of the frames, the slots, the disks and their blocks, and the files' names, disks and modes.
pub record KeepsMachine (old new : World) : Type 0 where
  pub core : core_of new.store ≡ core_of old.store
  pub frames : length new.store.frames ≡ length old.store.frames
  pub slots : length new.anon.counts ≡ length old.anon.counts
  pub disks : new.files.disks ≡ old.files.disks
  pub modes : map mode_of new.files.files ≡ map mode_of old.files.files
  pub bays : new.store.bays ≡ old.store.bays

-- A process changes memory: the machine and the spaces of the other processes stay; memory and the notes fit as before; disks tell where they told; this is
-- said of flat memory before and after, as the disks tell it; and whatever disks tell, it has the shape then of what this function makes of it.
pub record TurnsMemory (p : ℕ) (old new : Memory) (after : Flat → Flat) (means : Flat → Flat → Type 0) : Type 0 where
  pub machine : KeepsMachine old.world new.world
  pub others : (q : ℕ) → q ≢ p → finite.get new.spaces q ≡ finite.get old.spaces q
  pub memory : MemoryFits new
  pub notes : (notes : Notes) → NotesFit old.world notes → NotesFit new.world notes
  pub tells : (notes : Notes) → NotesFit old.world notes → AllTell old.world notes ↔ AllTell new.world notes
  pub flat : (born : set.FinSet nat_cmp) (notes : Notes) → NotesFit old.world notes → AllTell old.world notes → IsFlat (flat_memory old born notes)
      → means (flat_memory old born notes) (flat_memory new born notes)
  pub shaped : (born : set.FinSet nat_cmp) (notes : Notes) → SameShape (flat_memory new born notes) (after (flat_memory old born notes))

-- Flat memory is this function of what it was.
abbrev pub ChangesMemory : ℕ → Memory → Memory → (Flat → Flat) → Type 0
ChangesMemory p old new after = TurnsMemory p old new after (λ F G. G ≡ after F)

-- A call is done: in flat memory the entry is due, and flat memory is then what its call makes of it.
abbrev pub ActsOnMemory : Memory → Memory → Entry → Type 0
ActsOnMemory old new e = TurnsMemory e.process old new (λ F. after_act F e) (λ F G. IsDue F e × (G ≡ after_act F e))

-- The process is alive then, unless the call is an Exit.
abbrev pub StaysAlive : Memory → ℕ → Call → Type 0
StaysAlive m p call = IsFalse (is_exit call) → IsSome (finite.get m.spaces p)

-- The entry may be made now: it takes the pending tails; its call is well formed, no Fork, and has its own reply; a Sync says where it may have begun; and
-- the file of its call is free, or the call goes on with the part that has the file; and its signal or errno, or that it has none, is what is due.
pub record MayEnter (s : KernelState) (seat : ℕ) (e : Entry) : Type 0 where
  pub try : CanTry s seat e.process e.call
  pub cleared : e.cleared ≡ s.pending
  pub formed : IsWellFormed e.call
  pub plain : (child : ℕ) → e.call ≢ Fork child
  pub done : IsFalse (is_io e.reply)
  pub sync : (b : ℕ) → e.reply ≡ Synced b → IsStart s.history (length s.history) e.process b
  pub file : MayUseFile e seat s.calls
  pub refusal : IsRefusal s.memory e.process e.call (refusal_in e.reply)

-- The pages whose marks rose before a Sync answered, in some order: each is one that it wants clean, and all of these are among them.
pub record RaisesPages (new : Memory) (p : ℕ) (call : Call) (entries : ℕ) (m n : MarksSeen) : Type 0 where
  pub names : List PageName
  pub each : AreWanted new p call names
  pub all : AreWantedClean new p call names
  pub rose : n ≡ marks_all_risen new.world m names entries

-- WHAT AN ANSWER DOES TO THE MARKS, where memory was this and is this then, and there were so many entries. A Sync that is done raises those of the pages that
-- it wants clean; a Truncate that makes its file shorter takes those of its pages back; no other answer changes any.
abbrev pub MarksAfterReply : Memory → Memory → ℕ → Call → Reply → ℕ → MarksSeen → MarksSeen → Type 0
MarksAfterReply old new p (Sync addr len) (Synced b) entries m n = RaisesPages new p (Sync addr len) entries m n
MarksAfterReply old new p call reply entries m n = n ≡ marks_answered old.world.files call reply (suc entries) m

-- Where a Sync is answered, each page that it wants clean is.
abbrev pub IsCleanThen : Memory → Entry → Type 0
IsCleanThen new e = (from : ℕ) (name : PageName) → e.reply ≡ Synced from → WantsClean new e.process e.call name → IsCleanPage new.world name

-- The state with an entry made, and with these marks.
abbrev pub with_entry_marked : KernelState → Entry → List (Option ℕ) → List (Option SyncStart) → MarksSeen → KernelState
with_entry_marked s e calls syncs n = record (with_entry_made s e calls syncs) { marks = n }

-- A call that is done on pages alone is done. One change after another is a change, where the first leaves flat memory well formed and the second respects
-- its shape. And a call that is
-- done, of a seat that has nothing outside, is an event, with its entry.
pub record CallRule : Type 0 where
  pub pages : (old new : World) (spaces : Spaces) (e : Entry) → ActsOnPages old new spaces e
      → ActsOnMemory (record { world = old; spaces = spaces }) (record { world = new; spaces = spaces }) e
  pub joined : (p : ℕ) (u v w : Memory) (first second : Flat → Flat)
      → ((born : set.FinSet nat_cmp) (notes : Notes) → NotesFit u.world notes → AllTell u.world notes → IsFlat (flat_memory u born notes) → IsFlat (first (flat_memory u born notes)))
      → RespectsShape second → ChangesMemory p u v first → ChangesMemory p v w second → ChangesMemory p u w (λ F. second (first F))
  pub done : (s : KernelState) (new : Memory) (seat : ℕ) (e : Entry) (calls : List (Option ℕ)) (syncs : List (Option SyncStart)) (n : MarksSeen) → ActsOnMemory s.memory new e
      → MarksAfterReply s.memory new e.process e.call e.reply (length s.history) s.marks n → IsCleanThen new e
      → StaysAlive new e.process e.call → MayEnter s seat e
      → LocksAfter e s.calls calls → StartsAfter e s.syncs syncs → length syncs ≡ length s.syncs
      → IsEvent seat s None (with_entry_marked (record s { memory = new }) e calls syncs n) None
