use Rattle.std.proofs.Common.{◌≡◌, None, sym, ◌∙◌, subst}
use Rattle.vm_core.specs.Fits.{FitsAt}
use Rattle.vm_core.specs.vm_world.State.{KernelState}
use Rattle.vm_kernel.specs.Notes.{note_of_held}
use Rattle.vm_kernel.specs.Steps.{TriesAccess}
use Rattle.vm_kernel.proofs.boxed.BoxedState.access_and_begin.Goals as goal

pub access_and_begin-requires-clause-fits : goal.access_and_begin-requires-clause-fits
access_and_begin-requires-clause-fits g c =
    let same : c.deref_mut.result.now ≡ c.args.self.now = c.deref_mut.ensures.value ∙ c.self.view_is in
    subst (λ (s : KernelState). FitsAt s c.args.seat None) (sym same) c.requires.fits

pub returns-clause-tries : goal.returns-clause-tries
returns-clause-tries g c =
    subst (λ (s : KernelState). TriesAccess s c.access_and_begin.new.state c.args.seat c.args.process c.args.call.now (note_of_held c.access_and_begin.new.sent) c.access_and_begin.result)
    (c.deref_mut.ensures.value ∙ c.self.view_is) c.access_and_begin.ensures.tries
