use Rattle.std.proofs.Common.{◌≡◌, None, sym, ◌∙◌, subst}
use Rattle.std.proofs.lemmas.Option.{IfSome_then}
use Rattle.vm_core.specs.Fits.{FitsAt}
use Rattle.vm_core.specs.vm_world.Events.{IsEvent}
use Rattle.vm_core.specs.vm_world.State.{KernelState}
use Rattle.vm_kernel.specs.Steps.{TriesAccess}
use Rattle.vm_kernel.proofs.Accesses.{hit-tries, tried-hit, none-then}
use Rattle.vm_kernel.proofs.boxed.BoxedState.try_hit.Goals as goal

pub try_hit-requires-clause-fits : goal.try_hit-requires-clause-fits
try_hit-requires-clause-fits g c =
    let same : c.deref_mut.result.now ≡ c.args.self.now = c.deref_mut.ensures.value ∙ c.self.view_is in
    subst (λ (s : KernelState). FitsAt s c.args.seat None) (sym same) c.requires.fits

pub returns-clause-event : goal.returns-clause-event
returns-clause-event g c = IfSome_then c.try_hit.result c.try_hit.ensures.event (λ a h.
    subst (λ (s : KernelState). IsEvent c.args.seat s None c.try_hit.new.self None) (c.deref_mut.ensures.value ∙ c.self.view_is) h)

pub returns-clause-tries : goal.returns-clause-tries
returns-clause-tries g c =
    let e = c.try_hit.ensures in
    IfSome_then c.try_hit.result (tried-hit c.deref_mut.result.now c.try_hit.new.self c.args.seat c.args.process c.args.call.now c.try_hit.result
    (hit-tries c.deref_mut.result.now c.try_hit.new.self c.args.seat c.args.process c.args.call.now c.try_hit.result e.answers e.shown e.slots e.hit e.event e.marks) e.kind) (λ a h.
    subst (λ (s : KernelState). TriesAccess s c.try_hit.new.self c.args.seat c.args.process c.args.call.now None a) (c.deref_mut.ensures.value ∙ c.self.view_is) h)

pub returns-clause-none : goal.returns-clause-none
returns-clause-none g c = none-then c.try_hit.result _ _ (λ h. h ∙ c.deref_mut.ensures.value ∙ c.self.view_is) c.try_hit.ensures.none
