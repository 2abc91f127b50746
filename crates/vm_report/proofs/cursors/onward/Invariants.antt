use Rattle.std.proofs.Common.{◌≡◌, ◌-◌, length}
use Rattle.vm_report.specs.Runs.{entries_left}
use Rattle.vm_report.proofs.cursors.onward.Given as goal

abbrev pub invariant-loop-run : goal.invariant-loop-run
invariant-loop-run l = record {
  left : entries_left l.history l.runs l.at ≡ entries_left l.history l.runs l.initial.at;
}

abbrev pub decreases-loop-run : goal.decreases-loop-run
decreases-loop-run l = length l.runs - l.at.next
