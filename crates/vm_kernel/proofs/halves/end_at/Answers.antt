use Rattle.vm_kernel.proofs.Visited.{noted-for}
use Rattle.vm_kernel.proofs.halves.end_at.Goals as goal

pub second_at-requires-clause-out : goal.second_at-requires-clause-out
second_at-requires-clause-out g c = noted-for c.args.process c.args.call.now c.args.seat.now.note c.requires.out c.requires.may.hand
