use Rattle.kernel_lock.specs.Seats.{HasTried}
use Rattle.kernel_lock.proofs.lock.KernelLock.enter.Given as goal

abbrev pub invariant-loop : goal.invariant-loop
invariant-loop g l = HasTried l.initial.seat l.seat
