use Rattle.std.proofs.Common.{length}
use Rattle.trace_check.proofs.Openings.{RootsAdded}
use Rattle.trace_check.proofs.opened.add_roots.Given as goal

abbrev pub invariant-loop-left : goal.invariant-loop-left
invariant-loop-left l = RootsAdded l.roots l.left l.fn.flat l.flat

abbrev pub decreases-loop-left : goal.decreases-loop-left
decreases-loop-left l = length l.left
