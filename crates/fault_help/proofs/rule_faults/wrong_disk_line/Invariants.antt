use Rattle.std.proofs.Common.{◌≡◌, length}
use Rattle.fault_help.specs.RuleTexts.{wrong_disk_line}
use Rattle.fault_help.proofs.rule_faults.wrong_disk_line.Given as goal

abbrev pub invariant-loop-left : goal.invariant-loop-left
invariant-loop-left l = wrong_disk_line l.left ≡ wrong_disk_line l.setup

abbrev pub decreases-loop-left : goal.decreases-loop-left
decreases-loop-left l = length l.left
