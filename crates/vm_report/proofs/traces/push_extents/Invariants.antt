use Rattle.std.proofs.Common.{◌≡◌, ◌++◌, length}
use Rattle.vm_report.specs.Trace.{extents_text}
use Rattle.vm_report.proofs.traces.push_extents.Given as goal

abbrev pub invariant-loop-left : goal.invariant-loop-left
invariant-loop-left l = l.out.items ++ extents_text l.left ≡ l.initial.out.items ++ extents_text l.extents

abbrev pub decreases-loop-left : goal.decreases-loop-left
decreases-loop-left l = length l.left
