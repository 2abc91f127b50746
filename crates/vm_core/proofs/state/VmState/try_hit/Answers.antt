use Rattle.std.proofs.Common.{◌≢◌, ℕ, length, ap}
use Rattle.fault_entry.specs.Answers.{attempt_of}
use Rattle.fault_entry.specs.vm_types.declared.call.Call.TheVariants.{Sync, Truncate}
use Rattle.fault_entry.specs.vm_world.State.{KernelState}
use Rattle.vm_core.specs.Answered.{MarksAfterCall}
use Rattle.vm_core.specs.SeatSteps.{AnswersTry}
use Rattle.vm_core.proofs.Served.{access-formed, access-own, access-plain, plain-marks, same-marks, tries-own}
use Rattle.vm_core.proofs.state.VmState.try_hit.Given.{Over}
use Rattle.vm_core.proofs.state.VmState.try_hit.Goals.{After-settle_hit}
use Rattle.vm_core.proofs.state.VmState.try_hit.Goals as goal

accessed : (g : Over) (c : After-settle_hit g) → AnswersTry c.args.self.now c.settle_hit.new.self c.args.seat c.args.process c.args.call.now (attempt_of c.in-Some.answer)
accessed g c =
    let e = c.in-Some.ensures in
    tries-own c.args.seat c.args.process c.args.self.now c.hit.new.self c.settle_hit.new.self c.args.call.now (attempt_of c.in-Some.answer) c.requires.fits (access-own c.args.call.now c.requires.access) c.requires.may (access-formed c.args.call.now c.requires.access)
    (record { serves = e.serves; shown = e.shown; slots = e.slots; hit = e.hit; own = e.own; alive = e.alive; marks = marks })
    (same-marks c.args.self.now c.hit.new.self c.hit.ensures.rest) c.settle_hit.ensures.new c.settle_hit.ensures.seated
  where
    plain : ((addr len : ℕ) → c.args.call.now ≢ Sync addr len) × ((f len : ℕ) → c.args.call.now ≢ Truncate f len)
    plain = access-plain c.args.call.now c.requires.access

    marks : MarksAfterCall c.args.self.now c.hit.new.self c.args.process c.args.call.now (attempt_of c.in-Some.answer)
    marks = plain-marks c.args.self.now.memory c.hit.new.self.memory c.args.process c.args.call.now (attempt_of c.in-Some.answer) (length c.args.self.now.history) c.args.self.now.marks c.hit.new.self.marks plain.0 plain.1
        (ap (λ (s : KernelState). s.marks) c.hit.ensures.rest)

pub returns-clause-answers : goal.returns-clause-answers
returns-clause-answers g c = (accessed g (goal.at.returns-clause-answers g c).After-settle_hit).answers

pub returns-clause-event : goal.returns-clause-event
returns-clause-event g c = (accessed g (goal.at.returns-clause-event g c).After-settle_hit).event

pub returns-clause-marks : goal.returns-clause-marks
returns-clause-marks g c = (accessed g (goal.at.returns-clause-marks g c).After-settle_hit).marks
