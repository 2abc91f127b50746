use Rattle.std.proofs.Common.{◌≡◌, ◌+◌, ◌++◌, length}
use Rattle.vm_report.specs.Trace.{roots_text}
use Rattle.vm_report.proofs.traces.push_roots.Given as goal

abbrev pub invariant-loop-left : goal.invariant-loop-left
invariant-loop-left l = record { so_far : l.out.items ++ roots_text l.process l.left ≡ l.initial.out.items ++ roots_text 1 l.parents; few : l.process + length l.left ≡ 1 + length l.parents }

abbrev pub decreases-loop-left : goal.decreases-loop-left
decreases-loop-left l = length l.left
