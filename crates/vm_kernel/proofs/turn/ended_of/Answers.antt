use Rattle.std.proofs.Common.{sym, subst}
use Rattle.vm_kernel.proofs.turn.ended_of.Goals as goal
