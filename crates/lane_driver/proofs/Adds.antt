-- What a turn adds to the history: nothing, or the entry of the lane's next call.
use Rattle.std.proofs.Common.{◌+◌, ◌≡◌, ℕ, Bool, true, false, [], ◌∷◌, ◌++◌, Option, Some, None, refl, ap, ◌∙◌, ◌⊎◌, inl, inr}
use Rattle.std.specs.Prelude.{IsTrue, is_some}
use Rattle.fault_entry.specs.vm_types.Parts.{ends_call}
use Rattle.fault_entry.specs.vm_types.declared.call.Call.{Call}
use Rattle.fault_entry.specs.vm_types.declared.call.Entry.{Entry}
use Rattle.fault_entry.specs.vm_types.declared.call.Reply.{Reply}
use Rattle.fault_entry.specs.page_store.Flight.{FlightSeen}
use Rattle.fault_entry.specs.seg_vn.declared.attempt.Attempt.{Attempt}
use Rattle.fault_entry.specs.seg_vn.declared.attempt.Attempt.TheVariants.{Done, Need, Busy}
use Rattle.fault_entry.specs.vm_world.State.{KernelState}
use Rattle.vm_core.specs.Calls.{AnswersCall}
use Rattle.vm_core.specs.Flights.{EndsWith}
use Rattle.vm_core.specs.SeatSteps.{AfterTry}
use Rattle.lane_driver.specs.Lanes.{LaneSeen, lane_after, lane_process, next_call}
use Rattle.lane_driver.specs.LaneTurns.{IsDoneBy, LandsLaneFlight, TakesLaneTurn, TriesLaneCall, TurnsBy}

-- one entry more, of this process and call, which ends the call
pub record AddsOne (s t : KernelState) (p : ℕ) (call : Call) : Type 0 where
  pub entry : Entry
  pub history : t.history ≡ s.history ++ entry ∷ []
  pub process : entry.process ≡ p
  pub is : entry.call ≡ call
  pub ends : IsTrue (ends_call entry.call entry.reply)

-- none, or one where the call is done
abbrev pub AddsWhere : KernelState → KernelState → ℕ → Call → Bool → Type 0
AddsWhere s t p call done = ((done ≡ false) × (t.history ≡ s.history)) ⊎ ((done ≡ true) × AddsOne s t p call)

tried-adds : (s t mid : KernelState) (seat : ℕ) (call : Call) (a : Attempt) (done : Bool) (flight : Option FlightSeen) → AnswersCall s mid seat (seat + 1) call a → AfterTry mid t seat a flight → IsDoneBy call a done → AddsWhere s t (seat + 1) call done
tried-adds s t mid seat call (Done reply) done flight answers goes tells = inr (
  tells.0,
  record {
    entry = record { process = seat + 1; call = call; reply = reply; cleared = answers.cleared };
    history = ap (λ (x : KernelState). x.history) goes.0 ∙ answers.adds.history;
    process = refl;
    is = refl;
    ends = tells.1;
  },
)
tried-adds s t mid seat call (Busy h) done flight answers goes tells = inl (tells, ap (λ (x : KernelState). x.history) goes.0 ∙ answers.began.none.history)
tried-adds s t mid seat call (Need plan) done flight answers goes tells = inl (tells, ap (λ (x : KernelState). x.history) goes.2.rest ∙ answers.began.none.history)

pub try-adds : (s t : KernelState) (seat : ℕ) (call : Call) (done : Bool) (flight : Option FlightSeen) → TriesLaneCall s t seat call done flight → AddsWhere s t (seat + 1) call done
try-adds s t seat call done flight tries = tried-adds s t tries.next.mid seat call tries.attempt done flight tries.next.tries.answers tries.next.goes tries.tells

landed-adds : (s t : KernelState) (p : ℕ) (call : Call) (answer : Option Reply) (done : Bool) → EndsWith s t (Some (p, call)) answer → done ≡ is_some answer → ((reply : Reply) → answer ≡ Some reply → IsTrue (ends_call call reply)) → AddsWhere s t p call done
landed-adds s t p call None done ends is whole = inl (is, ends.none.history)
landed-adds s t p call (Some reply) done ends is whole = inr (
  is,
  record { entry = record { process = p; call = call; reply = reply; cleared = s.pending }; history = ends.history; process = refl; is = refl; ends = whole reply refl },
)

pub land-adds : (s t : KernelState) (seat : ℕ) (call : Call) (f : FlightSeen) (done : Bool) → LandsLaneFlight s t seat call f done → AddsWhere s t (seat + 1) call done
land-adds s t seat call f done lands = landed-adds s t (seat + 1) call lands.answer done lands.lands.entry lands.tells lands.whole

-- THE TURN: what the lane is then, and what the history has more.
pub record TurnAdds (s t : KernelState) (lane new : LaneSeen) : Type 0 where
  pub done : Bool
  pub flight : Option FlightSeen
  pub is : new ≡ lane_after lane done flight
  pub adds : ((done ≡ false) × (t.history ≡ s.history)) ⊎ ((done ≡ true) × ((call : Call) × (next_call lane ≡ Some call) × AddsOne s t (lane_process lane) call))

with-call : (s t : KernelState) (lane : LaneSeen) (call : Call) (done : Bool) → next_call lane ≡ Some call → AddsWhere s t (lane_process lane) call done
    → ((done ≡ false) × (t.history ≡ s.history)) ⊎ ((done ≡ true) × ((c : Call) × (next_call lane ≡ Some c) × AddsOne s t (lane_process lane) c))
with-call s t lane call done at (inl none) = inl none
with-call s t lane call done at (inr one) = inr (one.0, (call, at, one.1))

turns-add : (s t : KernelState) (lane new : LaneSeen) (flight : Option FlightSeen) (call : Option Call) → lane.flight ≡ flight → next_call lane ≡ call → TurnsBy flight call s t lane new → TurnAdds s t lane new
turns-add s t lane new (Some f) (Some call) out at turns = record { done = turns.0; flight = None; is = turns.2; adds = with-call s t lane call turns.0 at (land-adds s t lane.seat call f turns.0 turns.1) }
turns-add s t lane new None (Some call) out at turns = record { done = turns.0; flight = turns.1; is = turns.3; adds = with-call s t lane call turns.0 at (try-adds s t lane.seat call turns.0 turns.1 turns.2) }
turns-add s t lane new None None out at turns = record { done = false; flight = lane.flight; is = turns.1; adds = inl (refl, ap (λ (x : KernelState). x.history) turns.0) }
turns-add s t lane new (Some f) None out at turns = absurd turns

pub turn-adds : (s t : KernelState) (lane new : LaneSeen) → TakesLaneTurn s t lane new → TurnAdds s t lane new
turn-adds s t lane new turn = turns-add s t lane new lane.flight (next_call lane) refl refl turn.turns
