use Rattle.std.proofs.Common.{◌≡◌, ◌++◌, map}
use Rattle.std.specs.List.{All}
use Rattle.vm_kernel.specs.Callers.{IsCallerOf, caller_part}
use Rattle.vm_kernel.proofs.closing.gather_all.Given as goal

abbrev pub invariant-loop-caller : goal.invariant-loop-caller
invariant-loop-caller g l = (l.from.lock ≡ l.lock.lock) × All (λ it. IsCallerOf l.lock it) l.callers.items
    × (map caller_part l.callers.items ++ l.from.parts ≡ map caller_part l.initial.callers.items)

abbrev pub decreases-loop-caller : goal.decreases-loop-caller
decreases-loop-caller g l = goal.left-loop-caller g l
