use Rattle.std.proofs.Common.{◌≢◌, ℕ, length, sym, ap, subst}
use Rattle.fault_entry.specs.Answers.{attempt_of}
use Rattle.fault_entry.specs.vm_types.declared.call.Call.TheVariants.{Sync, Truncate}
use Rattle.fault_entry.specs.vm_world.State.{KernelState}
use Rattle.fault_entry.specs.declared.answers.Answer.{Answer}
use Rattle.vm_core.specs.Answered.{MarksAfterCall}
use Rattle.vm_core.specs.SeatSteps.{AnswersTry}
use Rattle.vm_core.proofs.Served.{WasServed, access-formed, access-own, access-plain, plain-marks, same-marks, tries-own}
use Rattle.vm_core.proofs.state.VmState.try_access.Given.{Over}
use Rattle.vm_core.proofs.state.VmState.try_access.Goals.{After-settle}
use Rattle.vm_core.proofs.state.VmState.try_access.Goals as goal

accessed : (g : Over) (c : After-settle g) → AnswersTry c.args.self.now c.settle.new.self c.args.seat c.args.process c.args.call.now (attempt_of c.settle.result)
accessed g c =
    let e = c.access-answer.ensures in
    tries-own c.args.seat c.args.process c.args.self.now c.access-answer.new.self c.settle.new.self c.args.call.now (attempt_of c.settle.result) c.requires.fits (access-own c.args.call.now c.requires.access) c.requires.may (access-formed c.args.call.now c.requires.access)
    (subst (λ (a : Answer). WasServed c.args.self.now c.access-answer.new.self c.args.process c.args.call.now (attempt_of a)) (sym c.settle.ensures.same)
    (record { serves = e.serves; shown = e.shown; slots = e.slots; hit = e.hit; own = e.own; alive = e.alive; marks = marks }))
    (same-marks c.args.self.now c.access-answer.new.self e.rest) c.settle.ensures.new c.settle.ensures.seated
  where
    plain : ((addr len : ℕ) → c.args.call.now ≢ Sync addr len) × ((f len : ℕ) → c.args.call.now ≢ Truncate f len)
    plain = access-plain c.args.call.now c.requires.access

    marks : MarksAfterCall c.args.self.now c.access-answer.new.self c.args.process c.args.call.now (attempt_of c.access-answer.result)
    marks = plain-marks c.args.self.now.memory c.access-answer.new.self.memory c.args.process c.args.call.now (attempt_of c.access-answer.result) (length c.args.self.now.history) c.args.self.now.marks c.access-answer.new.self.marks plain.0 plain.1
        (ap (λ (s : KernelState). s.marks) c.access-answer.ensures.rest)

pub returns-clause-answers : goal.returns-clause-answers
returns-clause-answers g c = (accessed g c).answers

pub returns-clause-event : goal.returns-clause-event
returns-clause-event g c = (accessed g c).event

pub returns-clause-marks : goal.returns-clause-marks
returns-clause-marks g c = (accessed g c).marks
