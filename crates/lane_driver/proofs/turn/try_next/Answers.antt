use Rattle.std.proofs.Common.{◌≡◌, ◌+◌, Some, None, refl, subst}
use Rattle.fault_entry.specs.seg_vn.declared.attempt.Attempt.{Attempt}
use Rattle.fault_entry.specs.seg_vn.declared.attempt.Attempt.TheVariants.{Done, Need, Busy}
use Rattle.fault_entry.specs.vm_world.State.{KeptPlan, Seats}
use Rattle.fault_entry.specs.vm_world.StateFits.{StateFits}
use Rattle.fault_entry.proofs.vm_world.StateSteps.{same-seats}
use Rattle.fault_entry.proofs.vm_world.Told.{event_law}
use Rattle.vm_core.specs.Calls.{AnswersCall}
use Rattle.vm_core.specs.SeatSteps.{AnswersTry}
use Rattle.lane_driver.specs.Lanes.{sent_for}
use Rattle.lane_driver.proofs.MayGo.{one-entry}
use Rattle.lane_driver.proofs.turn.try_next.Given.{Over}
use Rattle.lane_driver.proofs.turn.try_next.Goals.{In_ok-try_call}
use Rattle.lane_driver.proofs.turn.try_next.Goals as goal

pub begin-requires-clause-fits : goal.begin-requires-clause-fits
begin-requires-clause-fits g c =
    let f = c.requires.fits in
    (f.0, f.1, subst (λ (x : Seats). StateFits f.0 c.try_call.new.self x) (same-seats f.1 c.args.seat None f.3) (c.try_call.ensures.event.fits f.0 f.1 f.3 f.2), f.3)

-- the try, by what it came to
tried : (g : Over) (c : In_ok-try_call g) (a : Attempt) → c.in_ok-try_call.field-0 ≡ a → AnswersTry c.args.state.now c.try_call.new.self c.args.seat (c.args.seat + 1) c.args.call.now a
tried g c a is = subst (AnswersTry c.args.state.now c.try_call.new.self c.args.seat (c.args.seat + 1) c.args.call.now) is (record {
  answers = c.in_ok-try_call.ensures.answers;
  shown = c.in_ok-try_call.ensures.shown;
  slots = c.in_ok-try_call.ensures.slots;
  hit = c.in_ok-try_call.ensures.hit;
  event = c.try_call.ensures.event;
  marks = c.in_ok-try_call.ensures.marks;
})

pub returns-in-Done-clause-tries : goal.returns-in-Done-clause-tries
returns-in-Done-clause-tries g c = record {
  attempt = Done c.in-Done.field-0;
  next = record { mid = c.try_call.new.self; tries = tried g (goal.at.returns-in-Done-clause-tries g c).In_ok-try_call (Done c.in-Done.field-0) c.in-Done.is; goes = (refl, refl) };
  tells = (refl, one-entry c.args.call.now c.in-Done.field-0 c.requires.call.line);
}

pub returns-in-Busy-clause-tries : goal.returns-in-Busy-clause-tries
returns-in-Busy-clause-tries g c = record {
  attempt = Busy c.in-Busy.field-0;
  next = record { mid = c.try_call.new.self; tries = tried g (goal.at.returns-in-Busy-clause-tries g c).In_ok-try_call (Busy c.in-Busy.field-0) c.in-Busy.is; goes = (refl, refl) };
  tells = refl;
}

pub returns-in-Need-clause-tries : goal.returns-in-Need-clause-tries
returns-in-Need-clause-tries g c = record {
  attempt = Need c.in-Need.plan;
  next = record {
    mid = c.try_call.new.self;
    tries = tried g (goal.at.returns-in-Need-clause-tries g c).In_ok-try_call (Need c.in-Need.plan) c.in-Need.is;
    goes = (
      c.begin.result,
      refl,
      record {
        flight = c.begin.ensures.flight;
        store = c.begin.ensures.begins;
        places = c.begin.ensures.places;
        tables = c.begin.ensures.tables;
        pends = c.begin.ensures.pends;
        marks = c.begin.ensures.marks;
        rest = c.begin.ensures.rest;
      },
    );
  };
  tells = refl;
}

pub returns-in-Need-clause-event : goal.returns-in-Need-clause-event
returns-in-Need-clause-event g c =
    let answers = subst (λ (a : Attempt). AnswersCall c.args.state.now c.try_call.new.self c.args.seat (c.args.seat + 1) c.args.call.now a) c.in-Need.is c.in_ok-try_call.ensures.answers in
    let kept : KeptPlan = record { seat = c.args.seat; plan = c.in-Need.plan; of = Some (c.args.seat + 1, c.args.call.now) } in
    event_law.joined c.args.seat c.args.state.now c.try_call.new.self c.begin.new.self None None (Some (sent_for c.args.seat c.args.call.now c.begin.result))
    c.try_call.ensures.event (c.begin.ensures.event kept (record { is = answers.kept; mine = refl; same = refl }))
