use Rattle.std.proofs.Common.{◌≡◌, ◌+◌, ◌++◌, length}
use Rattle.vm_report.specs.Report.{file_lines}
use Rattle.vm_report.proofs.files.piece_lines.Given as goal

abbrev pub invariant-loop-left : goal.invariant-loop-left
invariant-loop-left l = record {
  so_far : l.out.items ++ file_lines l.at l.left ≡ l.initial.out.items ++ file_lines l.offset l.piece;
  place : l.at + length l.left ≡ l.offset + length l.piece;
}

abbrev pub decreases-loop-left : goal.decreases-loop-left
decreases-loop-left l = length l.left
