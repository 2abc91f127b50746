-- THE TURN OF A LANE, by that for its next call.
use Rattle.std.proofs.Common.{◌≡◌, ◌+◌, ◌-◌, ◌<◌, ◌≤◌, ℕ, suc, Bool, true, false, List, length, Option, Some, None, refl, sym, ap, ◌∙◌, subst, arith}
use Rattle.std.specs.Prelude.{IfSome, option_map, slice_get}
use Rattle.std.proofs.lemmas.Option.{slice_get_past, slice_get-get_or}
use Rattle.std.proofs.Math.ListN.{get_or}
use Rattle.fault_entry.specs.page_store.Flight.{FlightSeen, fresh}
use Rattle.fault_entry.specs.seg_vn.declared.attempt.Attempt.{Attempt}
use Rattle.fault_entry.specs.seg_vn.declared.attempt.Attempt.TheVariants.{Done, Need, Busy}
use Rattle.fault_entry.specs.vm_types.declared.call.Call.{Call}
use Rattle.fault_entry.specs.vm_world.Events.{IsEvent}
use Rattle.fault_entry.specs.vm_world.State.{Fixed, KernelState, Sent}
use Rattle.fault_entry.proofs.vm_world.Told.{event_law}
use Rattle.lane_driver.specs.Lanes.{LaneSeen, AreLaneCalls, IsSoundLane, MayMakeCalls, lane_after, lane_sent, next_call, sent_by, sent_for}
use Rattle.vm_core.specs.SeatSteps.{AfterTry}
use Rattle.lane_driver.specs.LaneTurns.{IsDoneBy, TakesLaneTurn, TurnsBy, TurnsCall}
use Rattle.lane_driver.proofs.Adds.{turn-adds}
use Rattle.lane_driver.proofs.Ends.{left-none, none-sent}
use Rattle.lane_driver.proofs.MayGo.{may-after}

-- with no call left nothing happens
pub rest-turn : (s : KernelState) (lane : LaneSeen) → IsSoundLane lane.seat lane.calls lane.done lane.flight → next_call lane ≡ None → TakesLaneTurn s s lane lane
rest-turn s lane sound none = record {
  turns = subst (λ (c : Option Call). TurnsBy lane.flight c s s lane lane) (sym none) (by_flight lane.flight refl);
  event = event_law.rests lane.seat s (lane_sent lane);
}
  where
    by_flight : (o : Option FlightSeen) → lane.flight ≡ o → TurnsBy lane.flight None s s lane lane
    by_flight None is = subst (λ (f : Option FlightSeen). TurnsBy f None s s lane lane) (sym is) (refl, refl)
    by_flight (Some f) is =
        let out = subst (λ (o : Option FlightSeen). IfSome o (λ f. (f.seat ≡ lane.seat) × (f.outcome ≡ fresh) × (lane.done < length lane.calls))) is sound.out in
        let past = left-none lane none in
        let lt = out.2 in
        absurd (omega (arith, past, lt))

-- a call that is done has no transfer out
tried-none : (mid t : KernelState) (seat : ℕ) (call : Call) (a : Attempt) (done : Bool) (out : Option FlightSeen) → AfterTry mid t seat a out → IsDoneBy call a done → done ≡ true → out ≡ None
tried-none mid t seat call (Done reply) done out goes tells is = goes.1
tried-none mid t seat call (Busy h) done out goes tells is = absurd (let z : false ≡ true = sym tells ∙ is in cc)
tried-none mid t seat call (Need plan) done out goes tells is = absurd (let z : false ≡ true = sym tells ∙ is in cc)

pub done-none : (s t : KernelState) (seat : ℕ) (call : Call) (flight : Option FlightSeen) (done : Bool) (out : Option FlightSeen) → TurnsCall s t seat call flight done out → done ≡ true → out ≡ None
done-none s t seat call (Some f) done out turns is = turns.1
done-none s t seat call None done out turns is = tried-none turns.next.mid t seat call turns.attempt done out turns.next.goes turns.tells is

-- what the lane has outside then
sent-after : (lane : LaneSeen) (call : Call) (done : Bool) (out : Option FlightSeen) → next_call lane ≡ Some call → (done ≡ true → out ≡ None) → option_map (sent_for lane.seat call) out ≡ lane_sent (lane_after lane done out)
sent-after lane call true out at none = ap (option_map (sent_for lane.seat call)) (none refl) ∙ sym (none-sent lane.seat out (slice_get lane.calls (suc lane.done)) (none refl))
sent-after lane call false out at none = sym (ap (sent_by lane.seat out) at)

-- THE TURN
pub call-turn : (s t : KernelState) (lane : LaneSeen) (call : Call) (done : Bool) (out : Option FlightSeen) → next_call lane ≡ Some call → TurnsCall s t lane.seat call lane.flight done out
    → IsEvent lane.seat s (option_map (sent_for lane.seat call) lane.flight) t (option_map (sent_for lane.seat call) out) → TakesLaneTurn s t lane (lane_after lane done out)
call-turn s t lane call done out at turns event = record {
  turns = subst (λ (c : Option Call). TurnsBy lane.flight c s t lane (lane_after lane done out)) (sym at) (by_flight lane.flight turns);
  event = subst (λ (o : Option Sent). IsEvent lane.seat s o t (lane_sent (lane_after lane done out))) (sym (ap (sent_by lane.seat lane.flight) at))
      (subst (λ (o : Option Sent). IsEvent lane.seat s (option_map (sent_for lane.seat call) lane.flight) t o) (sent-after lane call done out at (done-none s t lane.seat call lane.flight done out turns)) event);
}
  where
    by_flight : (o : Option FlightSeen) → TurnsCall s t lane.seat call o done out → TurnsBy o (Some call) s t lane (lane_after lane done out)
    by_flight (Some f) turns = (done, turns.0, ap (lane_after lane done) turns.1)
    by_flight None turns = (done, out, turns, refl)

pub may-then : (s t : KernelState) (lane new : LaneSeen) → TakesLaneTurn s t lane new → AreLaneCalls lane.calls → MayMakeCalls s lane → MayMakeCalls t new
may-then s t lane new turn calls may = may-after s t lane new (turn-adds s t lane new turn) calls (ap (λ (x : Fixed). x.parents) turn.event.fixed) (ap (λ (x : Fixed). x.entries) turn.event.fixed) may

-- a call that is looked up
pub next-some : (xs : List Call) (i : ℕ) (x : Call) → i < length xs → ((d : Call) → x ≡ get_or xs i d) → slice_get xs i ≡ Some x
next-some xs i x lt is = slice_get-get_or xs i x lt ∙ ap (λ (c : Call). Some c) (sym (is x))

pub next-none : (xs : List Call) (i : ℕ) → length xs ≤ i → slice_get xs i ≡ None
next-none xs i past = slice_get_past xs i past
