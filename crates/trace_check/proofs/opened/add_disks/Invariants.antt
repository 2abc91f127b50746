use Rattle.std.proofs.Common.{length}
use Rattle.trace_check.proofs.Openings.{DisksAdded}
use Rattle.trace_check.proofs.opened.add_disks.Given as goal

abbrev pub invariant-loop-left : goal.invariant-loop-left
invariant-loop-left l = DisksAdded l.disks l.left l.fn.flat l.flat

abbrev pub decreases-loop-left : goal.decreases-loop-left
decreases-loop-left l = length l.left
