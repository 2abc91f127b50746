-- What one turn of a lane does: one event of the core, or two. Public clauses cite this.
use Rattle.std.specs.Prelude.{◌+◌, ◌≡◌, ℕ, Bool, true, false, Option, Some, None, IsTrue, is_some}
use Rattle.fault_entry.specs.vm_types.Parts.{ends_call}
use Rattle.fault_entry.specs.vm_types.declared.call.Call.{Call}
use Rattle.fault_entry.specs.vm_types.declared.call.Reply.{Reply}
use Rattle.fault_entry.specs.page_store.Flight.{FlightSeen, note_of}
use Rattle.fault_entry.specs.seg_vn.declared.attempt.Attempt.{Attempt}
use Rattle.fault_entry.specs.seg_vn.declared.attempt.Attempt.TheVariants.{Done, Need, Busy}
use Rattle.fault_entry.specs.vm_world.Events.{IsEvent}
use Rattle.fault_entry.specs.vm_world.State.{KernelState}
use Rattle.vm_core.specs.Calls.{TakesMemory}
use Rattle.vm_core.specs.SeatSteps.{LandsFlight, TriesNext}
use Rattle.lane_driver.specs.Lanes.{LaneSeen, lane_sent, lane_after, next_call}

-- Whether a call is done then, by what is answered to it: with the entry that ends it.
abbrev pub IsDoneBy : Call → Attempt → Bool → Type 0
IsDoneBy call (Done reply) done = (done ≡ true) × IsTrue (ends_call call reply)
IsDoneBy call (Need plan) done = done ≡ false
IsDoneBy call (Busy h) done = done ≡ false

-- A lane without a transfer tries its next call: whether that is done then, and the transfer that began.
pub record TriesLaneCall (s t : KernelState) (seat : ℕ) (call : Call) (done : Bool) (flight : Option FlightSeen) : Type 0 where
  pub attempt : Attempt
  pub next : TriesNext s t seat (seat + 1) call attempt flight
  pub tells : IsDoneBy call attempt done

-- A lane with a transfer makes and ends it. Where it failed, its error is the reply to the lane's next call.
pub record LandsLaneFlight (s t : KernelState) (seat : ℕ) (call : Call) (f : FlightSeen) (done : Bool) : Type 0 where
  pub answer : Option Reply
  pub lands : LandsFlight s t seat (note_of f) (Some (seat + 1, call)) answer
  pub tells : done ≡ is_some answer
  pub whole : (reply : Reply) → answer ≡ Some reply → IsTrue (ends_call call reply)

-- The turn for a call: with this transfer out, and with none.
abbrev pub TurnsCall : KernelState → KernelState → ℕ → Call → Option FlightSeen → Bool → Option FlightSeen → Type 0
TurnsCall s t seat call (Some f) done out = LandsLaneFlight s t seat call f done × (out ≡ None)
TurnsCall s t seat call None done out = TriesLaneCall s t seat call done out

-- The turn by what the lane has out, and its next call: it makes and ends its transfer; or it tries
-- the call; or, with no call left, it does nothing.
abbrev pub TurnsBy : Option FlightSeen → Option Call → KernelState → KernelState → LaneSeen → LaneSeen → Type 0
TurnsBy (Some f) (Some call) s t lane new = (done : Bool) × LandsLaneFlight s t lane.seat call f done × (new ≡ lane_after lane done None)
TurnsBy None (Some call) s t lane new = (done : Bool) × (flight : Option FlightSeen) × TriesLaneCall s t lane.seat call done flight × (new ≡ lane_after lane done flight)
TurnsBy None None s t lane new = (t ≡ s) × (new ≡ lane)
TurnsBy (Some f) None s t lane new = ⊥

-- THE TURN OF A LANE: by what it has out and its next call, and an event of its seat.
pub record TakesLaneTurn (s t : KernelState) (lane new : LaneSeen) : Type 0 where
  pub turns : TurnsBy lane.flight (next_call lane) s t lane new
  pub event : IsEvent lane.seat s (lane_sent lane) t (lane_sent new)

-- A lane with no transfer out whose next call takes memory.
pub record NextTakesMemory (lane : LaneSeen) : Type 0 where
  pub idle : lane.flight ≡ None
  pub call : Call
  pub next : next_call lane ≡ Some call
  pub takes : TakesMemory call
