use Rattle.std.proofs.Common.{◌≡◌, Some, None, refl, sym, ap, subst}
use Rattle.vm_core.specs.SeatSteps.{AnswersTry}
use Rattle.vm_core.specs.fault_entry.Answers.{attempt_of}
use Rattle.vm_core.specs.fault_entry.declared.answers.Answer.{Answer}
use Rattle.vm_core.specs.fault_entry.seg_vn.declared.attempt.Attempt.TheVariants as attempt
use Rattle.vm_core.specs.vm_world.Events.{IsEvent}
use Rattle.vm_core.proofs.vm_world.Told.{event_law}
use Rattle.vm_kernel.specs.Notes.{AreUnperformed, note_of_held}
use Rattle.vm_kernel.specs.Steps.{TriesAccess}
use Rattle.vm_kernel.proofs.Accesses.{tried-access}
use Rattle.vm_kernel.proofs.Fits.{fits-after}
use Rattle.vm_kernel.proofs.steps.access_and_begin.Given.{Over}
use Rattle.vm_kernel.proofs.steps.access_and_begin.Goals as goal
use Rattle.vm_kernel.proofs.steps.access_and_begin.Goals.{After-try_access-answer}

pub send_for-requires-clause-fits : goal.send_for-requires-clause-fits
send_for-requires-clause-fits g c = fits-after c.args.state.now c.try_access-answer.new.self c.args.seat None None c.requires.fits c.try_access-answer.ensures.event

pub returns-in-Need-clause-event : goal.returns-in-Need-clause-event
returns-in-Need-clause-event g c =
    event_law.joined c.args.seat c.args.state.now c.try_access-answer.new.self c.send_for.new.state None None (note_of_held c.send_for.new.sent)
    c.try_access-answer.ensures.event c.send_for.ensures.event

-- the try
tried : (g : Over) (c : After-try_access-answer g) → AnswersTry c.args.state.now c.try_access-answer.new.self c.args.seat c.args.process c.args.call.now (attempt_of c.try_access-answer.result)
tried g c = record {
  answers = c.try_access-answer.ensures.answers;
  shown = c.try_access-answer.ensures.shown;
  slots = c.try_access-answer.ensures.slots;
  hit = c.try_access-answer.ensures.hit;
  event = c.try_access-answer.ensures.event;
  marks = c.try_access-answer.ensures.marks;
}

pub returns-in-Need-clause-tries : goal.returns-in-Need-clause-tries
returns-in-Need-clause-tries g c =
    let out = c.send_for.ensures.sends in
    let s = c.args.state.now in (
      attempt.Need c.in-Need.plan,
      Some out.0,
      refl,
      out.1,
      record {
        mid = c.try_access-answer.new.self;
        tries = subst (λ (a : Answer). AnswersTry s c.try_access-answer.new.self c.args.seat c.args.process c.args.call.now (attempt_of a)) c.in-Need.is
            (tried g (goal.at.returns-in-Need-clause-tries g c).After-try_access-answer);
        goes = (out.0, refl, out.2);
      },
    )

pub returns-in_default : goal.returns-in_default
returns-in_default g c =
    let t = c.try_access-answer.new.self in
    let e = c.try_access-answer.ensures in
    record {
      event = subst (λ o. IsEvent c.args.seat c.args.state.now None t (note_of_held o)) (sym c.requires.none) e.event;
      tries = subst (λ o. TriesAccess c.args.state.now t c.args.seat c.args.process c.args.call.now (note_of_held o) c.try_access-answer.result) (sym c.requires.none)
          (tried-access c.args.state.now t c.args.seat c.args.process c.args.call.now c.try_access-answer.result (tried g (goal.at.returns-in_default g c).After-try_access-answer) c.in_default.not-Need);
      ready = subst (λ o. AreUnperformed o) (sym c.requires.none) tt;
    }
