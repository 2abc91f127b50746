use Rattle.std.proofs.Common.{◌≡◌}
use Rattle.bench_kernel.specs.Calls.{HasCalls}
use Rattle.bench_kernel.proofs.callers.load_times.Given as goal

abbrev pub invariant-loop-left : goal.invariant-loop-left
invariant-loop-left g l = HasCalls l.kernel l.left l.caller × (l.caller.seat.number ≡ l.initial.caller.seat.number)

abbrev pub decreases-loop-left : goal.decreases-loop-left
decreases-loop-left g l = l.left
