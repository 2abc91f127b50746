use Rattle.std.proofs.Common.{None, replicate, sym, subst}
use Rattle.vm_core.specs.vm_world.State.{KernelState}
use Rattle.vm_kernel.specs.Since.{IsSinceOpening}
use Rattle.vm_kernel.proofs.Opened.{opens}
use Rattle.vm_kernel.proofs.starting.lock_of.Goals as goal

pub start-requires-clause-fits : goal.start-requires-clause-fits
start-requires-clause-fits g c =
    subst (λ (s : KernelState). IsSinceOpening s s (replicate c.args.seats None)) (sym c.in-Ok.ensures.ok) (opens c.args.state c.args.seats c.requires.fits)
