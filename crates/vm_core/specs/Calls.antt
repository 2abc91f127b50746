-- What a call that is tried leaves of the state. Public clauses cite this.
use Rattle.std.specs.Prelude.{◌≡◌, ◌≤◌, ◌+◌, ℕ, true, false, List, Option, Some, None, IsFalse}
use Rattle.fault_entry.specs.page_hash.declared.PageName.{PageName}
use Rattle.fault_entry.specs.page_store.declared.plan.Hold.{Hold}
use Rattle.fault_entry.specs.page_store.declared.plan.Plan.{Plan}
use Rattle.fault_entry.specs.vm_types.declared.call.Call.{Call}
use Rattle.fault_entry.specs.vm_types.declared.call.Call.TheVariants.{Load, Store, Map, Unmap, Protect, Fork, Exit}
use Rattle.fault_entry.specs.vm_types.declared.call.Reply.{Reply}
use Rattle.fault_entry.specs.vm_types.Parts.{file_of_call}
use Rattle.fault_entry.specs.vm_types.declared.call.Reply.TheVariants as reply
use Rattle.fault_entry.specs.vm_types.declared.call.Reply.TheVariants.{Synced}
use Rattle.fault_entry.specs.anon_slots.Slots.{count_at}
use Rattle.fault_entry.specs.flat_model.History.{is_io}
use Rattle.fault_entry.specs.flat_model.Words.{page}
use Rattle.fault_entry.specs.vm_world.FlatMemory.{Memory}
use Rattle.fault_entry.specs.vm_world.ForkSteps.{times_owned}
use Rattle.fault_entry.specs.vm_world.Plans.{IsRefusal, refusal_in}
use Rattle.fault_entry.specs.vm_world.Serving.{TakesFrames, AreReplaced, KeepsWanted, ModifiesNone, ModifiesOnly, MayModify, IsNoFile}
use Rattle.fault_entry.specs.vm_world.State.{KernelState, seat_of}
use Rattle.fault_entry.specs.vm_world.SyncSteps.{start_of, with_call_begun}
use Rattle.fault_entry.specs.vm_world.Wants.{MayPlan, MayHold, WantsClean, IsCleanPage}
use Rattle.fault_entry.specs.vm_world.World.{World}
use Rattle.fault_entry.specs.seg_vn.declared.attempt.Attempt.{Attempt}
use Rattle.fault_entry.specs.seg_vn.declared.attempt.Attempt.TheVariants.{Done, Need, Busy}
use Rattle.mmap_calls.specs.Calls.{IsMappingCall}
use Rattle.fault_entry.specs.Accesses.{IsShownWhereDone, IsHitWhereDone, SlotsWhereDone}
use Rattle.vm_core.specs.Flights.{AddsEntry, AddsNoEntry}
use Rattle.vm_core.specs.State.{with_next_entry}

-- The calls that concern mappings: those of a process that goes on, and the exit.
abbrev pub ConcernsMappings : Call → Type 0
ConcernsMappings Exit = Unit {0}
ConcernsMappings call = IsMappingCall call

-- The calls on the process's own space: loads, stores, and those that concern mappings.
abbrev pub IsOnOwnSpace : Call → Type 0
IsOnOwnSpace (Load a n) = Unit {0}
IsOnOwnSpace (Store a n v) = Unit {0}
IsOnOwnSpace call = ConcernsMappings call

-- The state with other memory, and these tails pending.
abbrev pub with_memory : KernelState → Memory → ℕ → KernelState
with_memory s m pending = record s { memory = m; pending = pending }

-- The state with other memory, these tails pending, and these seats in the calls of files.
abbrev pub with_served : KernelState → Memory → ℕ → List (Option ℕ) → KernelState
with_served s m pending calls = record (with_memory s m pending) { calls = calls }

-- The state once an answer was concluded: with its entry; or with the plan kept that it needs; or with none. A Sync that isn't answered yet has its start kept.
abbrev pub after_answer : KernelState → ℕ → ℕ → Call → Attempt → KernelState
after_answer s seat p call (Done reply) = with_next_entry (record s { plan = None }) (record { process = p; call = call; reply = reply; cleared = s.pending })
after_answer s seat p call (Need plan) = record (with_call_begun s seat call) { plan = Some (record { seat = seat; plan = plan; of = Some (p, call) }) }
after_answer s seat p call (Busy h) = record (with_call_begun s seat call) { plan = None }

-- A Fork that is done makes no slot: each is counted once more for each place of the parent's own maps that holds it. One that is refused counts none.
abbrev pub SlotsAfterFork : Memory → World → ℕ → Attempt → Type 0
SlotsAfterFork old new p (Done reply.Done) = (slot : ℕ) → count_at new.anon slot ≡ count_at old.world.anon slot + times_owned old p slot
SlotsAfterFork old new p answer = (slot : ℕ) → count_at new.anon slot ≡ count_at old.world.anon slot

-- WHICH SLOTS ARE MADE. A load that answers a word and a store that is done make a slot exactly where one is due, and where they are answered otherwise every
-- slot and place is as it was. No other call makes one: a Fork counts those of its parent more often, and the others count none more often.
abbrev pub SlotsAfterCall : Memory → World → ℕ → Call → Attempt → Type 0
SlotsAfterCall old new p (Load a n) answer = SlotsWhereDone old new p (page a) false answer
SlotsAfterCall old new p (Store a n v) answer = SlotsWhereDone old new p (page a) true answer
SlotsAfterCall old new p (Fork child) answer = SlotsAfterFork old new p answer
SlotsAfterCall old new p call answer = (slot : ℕ) → count_at new.anon slot ≤ count_at old.world.anon slot

-- A load that answers a word and a store that is done, whose page had a translation that lets them, leave all but that translation's bits, and the bytes of
-- frames. Where it had none, the one that it has then lets a store where the page may be written where it is.
abbrev pub IsHitAfterCall : Memory → World → ℕ → Call → Attempt → Type 0
IsHitAfterCall old new p (Load a n) answer = IsHitWhereDone old new p (page a) false answer
IsHitAfterCall old new p (Store a n v) answer = IsHitWhereDone old new p (page a) true answer
IsHitAfterCall old new p call answer = Unit {0}

-- After a load that answers a word, and a store that is done, the page has a translation to the home frame of the page that its place shows.
abbrev pub IsShownAfterCall : Memory → ℕ → Call → Attempt → Type 0
IsShownAfterCall m p (Load a n) answer = IsShownWhereDone m p (page a) answer
IsShownAfterCall m p (Store a n v) answer = IsShownWhereDone m p (page a) answer
IsShownAfterCall m p call answer = Unit {0}

-- A reply to a process's call that is no device error, and where it is a Sync's, says where that Sync began.
abbrev pub IsOwnReply : KernelState → ℕ → Call → Attempt → Type 0
IsOwnReply s p call (Done reply) = IsFalse (is_io reply) × ((from : ℕ) → reply ≡ Synced from → from ≡ start_of s (seat_of p) call)
IsOwnReply s p call attempt = Unit {0}

-- The calls that take memory: those that change what is mapped, and a Fork.
abbrev pub TakesMemory : Call → Type 0
TakesMemory (Map place len prot kind object offset) = Unit {0}
TakesMemory (Unmap a len) = Unit {0}
TakesMemory (Protect a len prot) = Unit {0}
TakesMemory (Fork child) = Unit {0}
TakesMemory call = ⊥

-- The call is done: exactly one entry is added, which is no device error. Its signal or errno, or that it has none, is what was due in flat memory of the
-- state, over any disks; no page is modified, or counts as rewritten, that wasn't or didn't, but one that the call may make so; and a Sync says where it
-- began, and leaves each page that it wants clean so. The entry takes the tails that were pending, and those
-- of pages that were replaced before the call acted. No disk is called.
pub record IsDone (old new : KernelState) (p : ℕ) (call : Call) (reply : Reply) : Type 0 where
  pub mid : World
  pub cleared : ℕ
  pub adds : AddsEntry old new (record { process = p; call = call; reply = reply; cleared = cleared })
  pub no_error : IsFalse (is_io reply)
  pub refusal : IsRefusal old.memory p call (refusal_in reply)
  pub start : (from : ℕ) → reply ≡ Synced from → from ≡ start_of old (seat_of p) call
  pub clean : (from : ℕ) (name : PageName) → reply ≡ Synced from → WantsClean new.memory p call name → IsCleanPage new.memory.world name
  pub takes : TakesFrames old.memory mid old.pending cleared
  pub replaced : AreReplaced old.memory.world new.memory.world takes.cut
  pub modified : ModifiesOnly (MayModify old.memory new.memory p call reply) old.memory.world new.memory.world
  pub bays : new.memory.world.store.bays ≡ old.memory.world.store.bays
  pub plan : new.plan ≡ None

-- Frames may have been taken for other pages, and nothing else happened: no page is modified, or counts as rewritten, that wasn't or didn't; tails became
-- pending of pages that were replaced; no entry was added; and where the call is a Sync, its start is kept.
pub record HasBegun (old new : KernelState) (seat : ℕ) (call : Call) : Type 0 where
  pub takes : TakesFrames old.memory new.memory.world old.pending new.pending
  pub replaced : AreReplaced old.memory.world new.memory.world takes.cut
  pub modified : ModifiesNone old.memory.world new.memory.world
  pub spaces : new.memory.spaces ≡ old.memory.spaces
  pub none : AddsNoEntry old new
  pub starts : new.syncs ≡ (with_call_begun old seat call).syncs

-- A transfer is needed, and no signal or errno was due: the plan is kept for this seat, process and call. Pages that it wants home and that were home are where
-- they were, on neither list; and where the call is one on a file, the files are as they were, with their blank pages.
pub record IsNeeded (old new : KernelState) (seat p : ℕ) (call : Call) (plan : Plan) : Type 0 where
  pub kept : new.plan ≡ Some (record { seat = seat; plan = plan; of = Some (p, call) })
  pub may : MayPlan new.memory (Some (p, call)) plan
  pub refusal : IsRefusal old.memory p call None
  pub wanted : KeepsWanted old.memory new.memory p call
  pub files : (f : ℕ) → file_of_call call ≡ Some f → new.memory.world.files ≡ old.memory.world.files
  pub began : HasBegun old new seat call

-- The call has to wait for another seat, and no signal or errno was due, but that a file's call alone is waited for before it is known whether one is.
pub record IsBusy (old new : KernelState) (seat p : ℕ) (call : Call) (h : Hold) : Type 0 where
  pub holds : MayHold new.memory new.calls p call h
  pub refusal : IsNoFile h → IsRefusal old.memory p call None
  pub plan : new.plan ≡ None
  pub began : HasBegun old new seat call

-- WHAT IS ANSWERED to a call of a process at its seat.
abbrev pub AnswersCall : KernelState → KernelState → ℕ → ℕ → Call → Attempt → Type 0
AnswersCall old new seat p call (Done reply) = IsDone old new p call reply
AnswersCall old new seat p call (Need plan) = IsNeeded old new seat p call plan
AnswersCall old new seat p call (Busy h) = IsBusy old new seat p call h
