-- A call that is served is an event. Public clauses cite this.
use Rattle.std.specs.Prelude.{◌≡◌, ◌≢◌, ◌<◌, ℕ, List, length, Option, Some, None, IsFalse}
use Rattle.flat_model.specs.vm_types.declared.call.Call.{Call}
use Rattle.flat_model.specs.vm_types.declared.call.Call.TheVariants.{Fork}
use Rattle.flat_model.specs.vm_types.declared.call.Entry.{Entry}
use Rattle.flat_model.specs.vm_types.declared.call.Reply.{Reply}
use Rattle.flat_model.specs.vm_types.declared.call.Reply.TheVariants.{Synced}
use Rattle.flat_model.specs.vm_types.WellFormed.{IsWellFormed}
use Rattle.page_store.specs.declared.plan.Hold.{Hold}
use Rattle.page_store.specs.declared.plan.Hold.TheVariants as hold
use Rattle.page_store.specs.declared.plan.Plan.{Plan}
use Rattle.flat_model.specs.Flat.{Flat}
use Rattle.flat_model.specs.History.{IsStart, is_io}
use Rattle.vm_world.specs.declared.sync_start.SyncStart.{SyncStart}
use Rattle.vm_world.specs.CallSteps.{StaysAlive, MarksAfterReply, with_entry_marked}
use Rattle.vm_world.specs.EntryLaws.{LocksAfter, StartsAfter, MayUseFile}
use Rattle.vm_world.specs.Events.{IsEvent, CanTry}
use Rattle.vm_world.specs.FlatMemory.{Memory}
use Rattle.vm_world.specs.Marks.{MarksSeen}
use Rattle.vm_world.specs.Serving.{ServesDone, ServesNeed, ServesBusy}
use Rattle.vm_world.specs.State.{KernelState, Seats}
use Rattle.vm_world.specs.StateFits.{StateFits}
use Rattle.vm_world.specs.Wants.{MayHold}

-- The entry of a call that is done, with the tails that it takes.
abbrev pub done_entry : ℕ → Call → Reply → ℕ → Entry
done_entry p call reply cleared = record { process = p; call = call; reply = reply; cleared = cleared }

-- The call may be answered so: it is well formed, no Fork, and the reply is its own; a Sync says where it may have begun; and the file of the call is free,
-- or the call goes on with the part that has the file.
pub record MayAnswer (s : KernelState) (seat p : ℕ) (call : Call) (reply : Reply) : Type 0 where
  pub formed : IsWellFormed call
  pub plain : (child : ℕ) → call ≢ Fork child
  pub own : IsFalse (is_io reply)
  pub sync : (b : ℕ) → reply ≡ Synced b → IsStart s.history (length s.history) p b
  pub file : MayUseFile (done_entry p call reply 0) seat s.calls

-- Where the hold is a file's, the file is another seat's.
abbrev pub IsOfAnother : ℕ → Hold → Type 0
IsOfAnother seat (hold.File t) = t ≢ seat
IsOfAnother seat h = Unit {0}

-- The state with memory and pending tails as they are once a call was served that has to wait.
abbrev pub after_wait : KernelState → Memory → ℕ → KernelState
after_wait s new pending = record s { memory = new; pending = pending; plan = None }

-- The state once a call was served that needs a transfer: with the plan that is kept for it.
abbrev pub after_need : KernelState → Memory → ℕ → ℕ → ℕ → Call → Plan → KernelState
after_need s new pending seat p call plan = record s { memory = new; pending = pending; plan = Some (record { seat = seat; plan = plan; of = Some (p, call) }) }

-- A call that is tried by a seat with nothing outside, and served, is an event: where it is done, with its entry, which takes the tails that are pending
-- then, and its process is alive unless that was an Exit; where it needs a transfer, with the plan that is kept; and where it has to wait. What it waits
-- for is another seat's, where the state fits.
pub record ServingLaw : Type 0 where
  pub done : (s : KernelState) (new : Memory) (seat p more : ℕ) (call : Call) (reply : Reply) (calls : List (Option ℕ)) (syncs : List (Option SyncStart)) (n : MarksSeen) → CanTry s seat p call
      → ServesDone s.memory new s.pending more p call reply → StaysAlive new p call → MayAnswer s seat p call reply
      → LocksAfter (done_entry p call reply more) s.calls calls → StartsAfter (done_entry p call reply more) s.syncs syncs → length syncs ≡ length s.syncs
      → MarksAfterReply s.memory new p call reply (length s.history) s.marks n
      → IsEvent seat s None (with_entry_marked (record s { memory = new }) (done_entry p call reply more) calls syncs n) None
  pub need : (s : KernelState) (new : Memory) (seat p more : ℕ) (call : Call) (plan : Plan) → CanTry s seat p call → seat < length s.syncs
      → ServesNeed s.memory new s.pending more p call plan → IsEvent seat s None (after_need s new more seat p call plan) None
  pub busy : (s : KernelState) (new : Memory) (seat p more : ℕ) (call : Call) (hold : Hold)
      → ServesBusy s.memory new s.pending more s.calls p call hold → IsEvent seat s None (after_wait s new more) None
  pub another : (opening : Flat) (s : KernelState) (seats : Seats) (new : Memory) (seat p more : ℕ) (call : Call) (hold : Hold) → StateFits opening s seats
      → seats seat ≡ None → CanTry s seat p call → ServesBusy s.memory new s.pending more s.calls p call hold → IsOfAnother seat hold
      → MayHold new s.calls p call hold
