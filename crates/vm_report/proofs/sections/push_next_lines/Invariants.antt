use Rattle.std.proofs.Common.{◌≡◌, ◌≤◌, ◌-◌, ◌++◌, length}
use Rattle.vm_report.specs.PiecesInside.{IsLeftOf, lines_left}
use Rattle.vm_report.specs.Runs.{entries_left}
use Rattle.vm_report.proofs.sections.push_next_lines.Given as goal

abbrev pub invariant-loop-at : goal.invariant-loop-at
invariant-loop-at l = record {
  so_far : l.out.items ++ lines_left l.lines l.at (entries_left l.history l.runs l.left) ≡ l.initial.out.items ++ lines_left l.lines l.line (entries_left l.history l.runs l.fn.place);
  from : l.line ≤ l.at;
  to : l.at ≤ length l.lines;
  left : IsLeftOf l.history l.runs l.fn.place l.left;
}

abbrev pub decreases-loop-at : goal.decreases-loop-at
decreases-loop-at l = length l.lines - l.at
