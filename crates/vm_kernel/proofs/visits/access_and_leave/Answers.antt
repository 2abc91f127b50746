use Rattle.std.proofs.Common.{None, ◌∙◌, sym, subst}
use Rattle.vm_core.specs.Fits.{FitsAt}
use Rattle.vm_kernel.specs.Notes.{note_of_held}
use Rattle.vm_kernel.specs.Steps.{TriesAccess}
use Rattle.vm_kernel.proofs.Fits.{event-at}
use Rattle.vm_kernel.proofs.Told.{told-none}
use Rattle.vm_kernel.proofs.visits.access_and_leave.Goals as goal

pub access_and_begin-answer-requires-clause-fits : goal.access_and_begin-answer-requires-clause-fits
access_and_begin-answer-requires-clause-fits g c = subst (λ k. FitsAt c.args.state k None) (sym c.number.ensures) c.requires.fits

pub leave-requires-clause-moves : goal.leave-requires-clause-moves
leave-requires-clause-moves g c = (
  c.args.state,
  c.requires.inside.1,
  event-at c.args.state c.access_and_begin-answer.new.self c.number.result c.args.seat.now.number None c.args.seat.now.note (note_of_held c.access_and_begin-answer.new.sent) c.number.ensures
      c.requires.inside.2 c.access_and_begin-answer.ensures.event,
)

pub returns-clause-leaves : goal.returns-clause-leaves
returns-clause-leaves g c = (
  c.access_and_begin-answer.new.self,
  record {
    new = c.leave.ensures.new ∙ told-none _;
    event = event-at c.args.state c.access_and_begin-answer.new.self c.number.result c.args.seat.now.number None c.args.seat.now.note (note_of_held c.access_and_begin-answer.new.sent) c.number.ensures
        c.requires.inside.2 c.access_and_begin-answer.ensures.event;
  },
  subst (λ k. TriesAccess c.args.state c.access_and_begin-answer.new.self k c.args.process c.args.call.now (note_of_held c.access_and_begin-answer.new.sent) c.access_and_begin-answer.result) c.number.ensures
      c.access_and_begin-answer.ensures.tries,
)
