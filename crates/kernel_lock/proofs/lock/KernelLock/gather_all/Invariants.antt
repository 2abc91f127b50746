use Rattle.std.proofs.Common.{◌≡◌, ◌++◌, false, map}
use Rattle.std.specs.List.{All}
use Rattle.kernel_lock.specs.Seats.{IsSeatOf, part_of}
use Rattle.kernel_lock.proofs.lock.KernelLock.gather_all.Given as goal

abbrev pub invariant-loop-seat : goal.invariant-loop-seat
invariant-loop-seat g l = (l.from.lock ≡ l.fn.self.lock) × All (λ it. IsSeatOf l.fn.self it × (it.inside ≡ false)) l.seats.items
    × (map part_of l.seats.items ++ l.from.parts ≡ map part_of l.initial.seats.items)

abbrev pub decreases-loop-seat : goal.decreases-loop-seat
decreases-loop-seat g l = goal.left-loop-seat g l
