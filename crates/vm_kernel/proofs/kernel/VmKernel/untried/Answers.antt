use Rattle.std.proofs.Common.{refl}
use Rattle.vm_kernel.proofs.Calling.{goes-not}
use Rattle.vm_kernel.proofs.kernel.VmKernel.untried.Goals as goal

pub returns-clause-goes : goal.returns-clause-goes
returns-clause-goes g c = goes-not c.args.caller.now c.own_law.ensures.own

pub returns-clause-quick : goal.returns-clause-quick
returns-clause-quick g c = (refl, c.requires.may.hand)

pub returns-clause-all : goal.returns-clause-all
returns-clause-all g c = (0, refl)
