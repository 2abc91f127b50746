use Rattle.std.proofs.Common.{◌≡◌, ◌<◌, None, length, sym, ◌∙◌, subst}
use Rattle.vm_core.specs.Fits.{FitsAt}
use Rattle.vm_core.specs.vm_world.State.{KernelState}
use Rattle.vm_kernel.specs.Notes.{note_of_held}
use Rattle.vm_kernel.specs.Steps.{MovesHand}
use Rattle.vm_kernel.proofs.boxed.BoxedState.move_hand.Goals as goal

pub move_hand-requires : goal.move_hand-requires
move_hand-requires g c =
    let same : c.deref_mut.result.now ≡ c.args.self.now = c.deref_mut.ensures.value ∙ c.self.view_is in
    record {
      fits = subst (λ (s : KernelState). FitsAt s c.args.seat None) (sym same) c.requires.fits;
      seat = subst (λ (s : KernelState). c.args.seat < length s.syncs) (sym same) c.requires.seat;
      none = c.requires.none;
    }

pub returns-clause-hand : goal.returns-clause-hand
returns-clause-hand g c =
    let same : c.deref_mut.result.now ≡ c.args.self.now = c.deref_mut.ensures.value ∙ c.self.view_is in
    subst (λ (s : KernelState). MovesHand s c.move_hand.new.state c.args.seat (note_of_held c.move_hand.new.sent)) same c.move_hand.ensures.hand
