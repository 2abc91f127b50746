use Rattle.std.proofs.Common.{◌<◌, None, length, ◌∙◌, sym, subst}
use Rattle.vm_core.specs.Fits.{FitsAt}
use Rattle.vm_kernel.specs.Notes.{note_of_held}
use Rattle.vm_kernel.specs.Steps.{MovesHand}
use Rattle.vm_kernel.proofs.Fits.{event-at}
use Rattle.vm_kernel.proofs.Told.{told-none}
use Rattle.vm_kernel.proofs.visits.hand_and_leave.Goals as goal

pub move_hand-requires : goal.move_hand-requires
move_hand-requires g c = record {
  fits = subst (λ k. FitsAt c.args.state k None) (sym c.number.ensures) c.requires.fits;
  seat = subst (λ k. k < length c.args.state.syncs) (sym c.number.ensures) c.requires.seated;
  none = c.requires.none;
}

pub leave-requires-clause-moves : goal.leave-requires-clause-moves
leave-requires-clause-moves g c = (
  c.args.state,
  c.requires.inside.1,
  event-at c.args.state c.move_hand.new.self c.number.result c.args.seat.now.number None c.args.seat.now.note (note_of_held c.move_hand.new.sent) c.number.ensures
      c.requires.inside.2 c.move_hand.ensures.event,
)

pub returns-clause-leaves : goal.returns-clause-leaves
returns-clause-leaves g c = (
  c.move_hand.new.self,
  record {
    new = c.leave.ensures.new ∙ told-none _;
    event = event-at c.args.state c.move_hand.new.self c.number.result c.args.seat.now.number None c.args.seat.now.note (note_of_held c.move_hand.new.sent) c.number.ensures
        c.requires.inside.2 c.move_hand.ensures.event;
  },
  subst (λ k. MovesHand c.args.state c.move_hand.new.self k (note_of_held c.move_hand.new.sent)) c.number.ensures c.move_hand.ensures.hand,
)
