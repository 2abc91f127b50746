use Rattle.std.proofs.Common.{◌≡◌, ◌≤◌, ◌+◌, ◌*◌, length}
use Rattle.vm_report.specs.Results.{bytes_read}
use Rattle.vm_report.proofs.line_results.count_read.Given as goal

abbrev pub invariant-loop-entry : goal.invariant-loop-entry
invariant-loop-entry l = record {
  so_far : l.count + length (bytes_read l.left) ≡ length (bytes_read l.entries);
  few : l.count + 64 * length l.left ≤ 64 * length l.entries;
}

abbrev pub decreases-loop-entry : goal.decreases-loop-entry
decreases-loop-entry l = length l.left
