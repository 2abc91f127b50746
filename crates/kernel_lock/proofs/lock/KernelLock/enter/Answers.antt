use Rattle.std.proofs.Common.{refl, le_refl}
use Rattle.kernel_lock.proofs.lock.KernelLock.enter.Goals as goal

pub loop-init : goal.loop-init
loop-init g c = (c.args.seat.now.refused, c.args.seat.now.refused_by, le_refl c.args.seat.now.refused, refl)
