use Rattle.std.proofs.Common.{ℕ, Option, Some, None, ap, option_map, Bor}
use Rattle.volume_files.specs.vm_types.declared.call.Call.{Call}
use Rattle.vm_core.specs.vm_world.State.{KernelState, Caller, Sent}
use Rattle.vm_core.specs.vm_world.Events.{IsEvent}
use Rattle.vm_core.specs.SeatSteps.{sent_along}
use Rattle.plan_runs.proofs.GoingOn.{still-at}
use Rattle.plan_runs.proofs.Trips.{grows-as, kept_for, kept-here, sent-fits, there-and-back}
use Rattle.plan_runs.proofs.making.transfer.Given.{Over}
use Rattle.plan_runs.proofs.making.transfer.Goals as goal
use Rattle.plan_runs.proofs.making.transfer.Goals.{After-begin}

pub begin-requires-clause-fits : goal.begin-requires-clause-fits
begin-requires-clause-fits g c = still-at c.args.state.now 0 c.requires.still

-- what seat 0 has outside
abbrev caller : (g : Over) (c : After-begin g) → Option Caller
caller g c = option_map (λ (c' : ℕ × Bor Call). (c'.0, c'.1.now)) c.args.of

abbrev sent : (g : Over) (c : After-begin g) → Sent
sent g c = sent_along c.begin.result (caller g c)

out : (g : Over) (c : After-begin g) → IsEvent 0 c.args.state.now None c.begin.new.self (Some (sent g c))
out g c = c.begin.ensures.event (kept_for c.args.plan (caller g c)) (kept-here c.args.state.now c.args.plan (caller g c) c.requires.kept)

pub bring_home-requires-clause-out : goal.bring_home-requires-clause-out
bring_home-requires-clause-out g c =
    let at = (goal.at.bring_home-requires-clause-out g c).After-begin in
    sent-fits c.args.state.now c.begin.new.self (sent g at) (out g at) c.requires.still

pub returns-clause-event : goal.returns-clause-event
returns-clause-event g c =
    let at = (goal.at.returns-clause-event g c).After-begin in
    there-and-back c.args.state.now c.begin.new.self c.bring_home.new.state (sent g at) (out g at) c.bring_home.ensures.event

pub returns-clause-grows : goal.returns-clause-grows
returns-clause-grows g c =
    let at = (goal.at.returns-clause-grows g c).After-begin in
    grows-as (caller g at) c.bring_home.result c.args.state.now c.begin.new.self c.bring_home.new.state (ap (λ (s : KernelState). s.history) c.begin.ensures.rest)
    c.bring_home.ensures.lands.entry

pub returns-clause-goes : goal.returns-clause-goes
returns-clause-goes g c = record {
  mid = c.begin.new.self;
  flight = c.begin.result;
  sends = record {
    flight = c.begin.ensures.flight;
    store = c.begin.ensures.begins;
    places = c.begin.ensures.places;
    tables = c.begin.ensures.tables;
    pends = c.begin.ensures.pends;
    marks = c.begin.ensures.marks;
    rest = c.begin.ensures.rest;
  };
  lands = c.bring_home.ensures.lands;
}
