use Rattle.std.proofs.Common.{◌+◌, Some, refl, sym, ap}
use Rattle.std.specs.Prelude.{is_some}
use Rattle.fault_entry.specs.page_store.Flight.{note_of}
use Rattle.lane_driver.specs.Lanes.{sent_for}
use Rattle.vm_core.specs.SeatSteps.{LandsFlight}
use Rattle.lane_driver.proofs.MayGo.{one-entry}
use Rattle.lane_driver.proofs.turn.land.Given.{Over}
use Rattle.lane_driver.proofs.turn.land.Goals as goal
use Rattle.lane_driver.proofs.turn.land.Goals.{After-end}

-- what ends
abbrev landed : (g : Over) (c : After-end g) → LandsFlight c.args.state.now c.end.new.self c.args.seat (note_of c.args.flight) (Some (c.args.seat + 1, c.args.call.now)) c.end.result
landed g c = record {
  comes = record {
    back = c.perform.new.self;
    performed = c.perform.ensures.performed;
    disk = c.end.ensures.disk;
    ends = c.end.ensures.ends;
    world = c.end.ensures.tables;
    spaces = c.end.ensures.spaces;
  };
  tells = c.end.ensures.answer;
  entry = c.end.ensures.entry;
  marks = c.end.ensures.marks;
  plan = c.end.ensures.plan;
}

pub returns-in-Some-clause-lands : goal.returns-in-Some-clause-lands
returns-in-Some-clause-lands g c = record {
  answer = c.end.result;
  lands = landed g (goal.at.returns-in-Some-clause-lands g c).After-end;
  tells = sym (ap is_some c.in-Some.is);
  whole = λ reply is. one-entry c.args.call.now reply c.requires.call.line;
}

pub returns-in-Some-clause-event : goal.returns-in-Some-clause-event
returns-in-Some-clause-event g c = c.end.ensures.event (sent_for c.args.seat c.args.call.now c.args.flight) (record { performed = c.perform.ensures.performed; same = refl })

pub returns-in-None-clause-lands : goal.returns-in-None-clause-lands
returns-in-None-clause-lands g c = record {
  answer = c.end.result;
  lands = landed g (goal.at.returns-in-None-clause-lands g c).After-end;
  tells = sym (ap is_some c.in-None.is);
  whole = λ reply is. one-entry c.args.call.now reply c.requires.call.line;
}

pub returns-in-None-clause-event : goal.returns-in-None-clause-event
returns-in-None-clause-event g c = c.end.ensures.event (sent_for c.args.seat c.args.call.now c.args.flight) (record { performed = c.perform.ensures.performed; same = refl })
