use Rattle.fault_entry.proofs.flat_model.Maps.{on_err_any}
use Rattle.std.proofs.Common.{◌≡◌, ℕ, List, Option, Some, None, sym, ◌∙◌, subst}
use Rattle.std.specs.Prelude.{option_map, slice_get}
use Rattle.fault_entry.specs.page_store.Flight.{FlightSeen}
use Rattle.fault_entry.specs.vm_types.declared.call.Call.{Call}
use Rattle.fault_entry.specs.vm_world.Events.{IsEvent}
use Rattle.vm_core.specs.Fits.{FitsAt}
use Rattle.lane_driver.specs.Lanes.{AreLaneCalls, LaneSeen, MayMakeCalls, lane_sent, sent_by, sent_for}
use Rattle.lane_driver.specs.LaneTurns.{NextTakesMemory, TakesLaneTurn, TurnsCall}
use Rattle.lane_driver.proofs.MayGo.{may-try}
use Rattle.lane_driver.proofs.Turning.{call-turn, may-then, next-none, next-some, rest-turn}
use Rattle.lane_driver.proofs.lane.Lane.take_turn.Given.{Over}
use Rattle.lane_driver.proofs.lane.Lane.take_turn.Goals as goal
use Rattle.lane_driver.proofs.lane.Lane.take_turn.Goals.{After-take}

pub returns-in_default-clause-turn : goal.returns-in_default-clause-turn
returns-in_default-clause-turn g c =
    let l : LaneSeen = record { seat = c.self.inside.seat; calls = c.self.inside.calls.items; done = c.self.inside.done; flight = c.self.inside.flight } in
    let none : slice_get c.self.inside.calls.items c.self.inside.done ≡ None = subst (λ (cs : List Call). slice_get cs c.self.inside.done ≡ None) c.deref.ensures.value (next-none c.deref.result.now c.self.inside.done c.in_default.ensures.lookup.3) in
    subst (λ (x : LaneSeen). TakesLaneTurn c.args.state.now c.args.state.now x x) c.self.view_is (rest-turn c.args.state.now l c.self.invariant.1 none)

-- the lane's next call
at : (g : Over) (c : After-take g) → slice_get c.self.inside.calls.items c.self.inside.done ≡ Some c.in-Some.call.now
at g c = subst (λ (cs : List Call). slice_get cs c.self.inside.done ≡ Some c.in-Some.call.now) c.deref.ensures.value (next-some c.deref.result.now c.self.inside.done c.in-Some.call.now c.in-Some.ensures.lookup.3.0 c.in-Some.ensures.lookup.3.1)

pub turn-requires-clause-call : goal.turn-requires-clause-call
turn-requires-clause-call g c = c.self.invariant.1.made.each c.self.inside.done c.in-Some.call.now (at g (goal.at.turn-requires-clause-call g c).After-take)

pub turn-requires-clause-fits : goal.turn-requires-clause-fits
turn-requires-clause-fits g c =
    let l : LaneSeen = record { seat = c.self.inside.seat; calls = c.self.inside.calls.items; done = c.self.inside.done; flight = c.self.inside.flight } in
    subst (λ (f : Option FlightSeen). FitsAt c.args.state.now c.self.inside.seat (option_map (sent_for c.self.inside.seat c.in-Some.call.now) f)) (sym c.take.ensures.value)
    (subst (λ (o : Option Call). FitsAt c.args.state.now c.self.inside.seat (sent_by c.self.inside.seat c.self.inside.flight o)) (at g (goal.at.turn-requires-clause-fits g c).After-take)
    (subst (λ (x : LaneSeen). FitsAt c.args.state.now x.seat (lane_sent x)) (sym c.self.view_is) c.requires.fits))

pub turn-requires-clause-may : goal.turn-requires-clause-may
turn-requires-clause-may g c =
    let l : LaneSeen = record { seat = c.self.inside.seat; calls = c.self.inside.calls.items; done = c.self.inside.done; flight = c.self.inside.flight } in
    let is = at g (goal.at.turn-requires-clause-may g c).After-take in
    may-try c.args.state.now l c.in-Some.call.now (lane_sent l) (subst (λ (x : LaneSeen). FitsAt c.args.state.now x.seat (lane_sent x)) (sym c.self.view_is) c.requires.fits)
    (subst (λ (x : LaneSeen). MayMakeCalls c.args.state.now x) (sym c.self.view_is) c.requires.may) is (c.self.invariant.1.made.each c.self.inside.done c.in-Some.call.now is)

pub returns-clause-turn : goal.returns-clause-turn
returns-clause-turn g c =
    let l : LaneSeen = record { seat = c.self.inside.seat; calls = c.self.inside.calls.items; done = c.self.inside.done; flight = c.self.inside.flight } in
    let is = at g (goal.at.returns-clause-turn g c).After-take in
    let s = c.args.state.now in
    let t = c.turn.new.state in
    let turns : TurnsCall s t l.seat c.in-Some.call.now l.flight c.in_ok-done.done c.in_ok-done.flight =
    subst (λ (f : Option FlightSeen). TurnsCall s t l.seat c.in-Some.call.now f c.in_ok-done.done c.in_ok-done.flight) c.take.ensures.value c.in_ok-done.ensures.turns in
    let event : IsEvent l.seat s (option_map (sent_for l.seat c.in-Some.call.now) l.flight) t (option_map (sent_for l.seat c.in-Some.call.now) c.in_ok-done.flight) =
    subst (λ (f : Option FlightSeen). IsEvent l.seat s (option_map (sent_for l.seat c.in-Some.call.now) f) t (option_map (sent_for l.seat c.in-Some.call.now) c.in_ok-done.flight)) c.take.ensures.value c.in_ok-done.ensures.event in
    subst (λ (x : LaneSeen). TakesLaneTurn s t x (record l { done = c.count_one-self-inside.result; flight = c.in_ok-done.flight })) c.self.view_is
    (subst (λ (n : ℕ). TakesLaneTurn s t l (record l { done = n; flight = c.in_ok-done.flight })) (sym c.count_one-self-inside.ensures)
    (call-turn s t l c.in-Some.call.now c.in_ok-done.done c.in_ok-done.flight is turns event))

pub returns-clause-may : goal.returns-clause-may
returns-clause-may g c =
    let turn = returns-clause-turn g c in
    may-then c.args.state.now c.turn.new.state c.args.self.now (record { seat = c.self.inside.seat; calls = c.self.inside.calls.items; done = c.count_one-self-inside.result; flight = c.in_ok-done.flight }) turn
    (subst (λ (x : LaneSeen). AreLaneCalls x.calls) c.self.view_is c.self.invariant.1.made) c.requires.may

pub returns-in_err-done-clause-takes : goal.returns-in_err-done-clause-takes
returns-in_err-done-clause-takes g c =
    let is = at g (goal.at.returns-in_err-done-clause-takes g c).After-take in
    on_err_any c.from_residual.result (NextTakesMemory c.args.self.now)
    (subst NextTakesMemory c.self.view_is (record { idle = sym c.take.ensures.value ∙ c.in_err-done.ensures.err.1; call = c.in-Some.call.now; next = is; takes = c.in_err-done.ensures.takes }))
