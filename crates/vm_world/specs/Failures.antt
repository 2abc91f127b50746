-- A flight that failed comes back, with its entry. Public clauses cite this.
use Rattle.std.specs.Prelude.{◌≡◌, ◌++◌, ℕ, [], ◌∷◌, List, length, Option, Some, None, Bool}
use Rattle.flat_model.specs.vm_types.declared.call.Call.{Call}
use Rattle.flat_model.specs.vm_types.declared.call.Entry.{Entry}
use Rattle.flat_model.specs.vm_types.declared.call.Reply.TheVariants.{Io}
use Rattle.page_store.specs.page_hash.declared.PageName.{PageName}
use Rattle.page_store.specs.Flight.{FlightSeen, failed}
use Rattle.vm_world.specs.declared.sync_start.SyncStart.{SyncStart}
use Rattle.vm_world.specs.EntryLaws.{LocksAfter, StartsAfter}
use Rattle.vm_world.specs.Events.{IsEvent}
use Rattle.vm_world.specs.State.{KernelState, Sent, seat_of}
use Rattle.vm_world.specs.StateSteps.{after_return, PendsTails, ComesBack}
use Rattle.vm_world.specs.World.{World}
use Rattle.vm_world.specs.WorldSteps.{returns, WorldStep}

-- The entry of a device error, which takes the pending tails.
abbrev pub io_entry : ℕ → Call → ℕ → ℕ → ℕ → ℕ → Entry
io_entry p call disk before after cleared = record { process = p; call = call; reply = Io disk before after; cleared = cleared }

-- The state with an entry more, and with these locks of files' calls and starts of Syncs; no tail is pending then.
abbrev pub with_entry_made : KernelState → Entry → List (Option ℕ) → List (Option SyncStart) → KernelState
with_entry_made s e calls syncs = record s { history = s.history ++ e ∷ []; pending = 0; calls = calls; syncs = syncs; plan = None }

-- A flight that failed comes back in a step of the world: with the entry of that error, which has the flight's own counts, for the process and call that
-- the flight was for, it is an event of its seat.
pub record FailureRule : Type 0 where
  pub fails : (s : KernelState) (new : World) (cut : PageName → Bool) (pending seat p : ℕ) (call : Call) (sent : Sent) (f : FlightSeen) (calls : List (Option ℕ)) (syncs : List (Option SyncStart))
      → WorldStep s.memory.world new s.memory.spaces (returns seat sent.note) cut → PendsTails s.memory.world cut s.pending pending
      → sent.of ≡ Some (p, call) → seat_of p ≡ seat
      → ComesBack sent.note f new → f.outcome ≡ failed
      → LocksAfter (io_entry p call f.number f.before f.disk.faults pending) s.calls calls
      → StartsAfter (io_entry p call f.number f.before f.disk.faults pending) s.syncs syncs → length syncs ≡ length s.syncs
      → IsEvent seat s (Some sent) (with_entry_made (after_return s new pending seat sent.note f) (io_entry p call f.number f.before f.disk.faults pending) calls syncs) None
