use Rattle.std.proofs.Common.{◌≡◌, ◌==◌, ◌++◌, length, map}
use Rattle.std.specs.Prelude.{filter}
use Rattle.vm_report.proofs.sections.lines_of.Given as goal

abbrev pub invariant-loop-left : goal.invariant-loop-left
invariant-loop-left l = map (λ x. x.now) l.own.items ++ filter (λ x. x.process == l.process) l.left ≡ filter (λ x. x.process == l.process) l.lines

abbrev pub decreases-loop-left : goal.decreases-loop-left
decreases-loop-left l = length l.left
