use Rattle.std.proofs.Common.{◌≡◌, ◌≤◌, ◌+◌, ◌*◌, length}
use Rattle.vm_report.specs.Results.{bytes_written}
use Rattle.vm_report.proofs.line_results.bytes_written.Given as goal

abbrev pub invariant-loop-entry : goal.invariant-loop-entry
invariant-loop-entry l = record {
  so_far : l.count + bytes_written l.left ≡ bytes_written l.entries;
  few : l.count + 64 * length l.left ≤ 64 * length l.entries;
}

abbrev pub decreases-loop-entry : goal.decreases-loop-entry
decreases-loop-entry l = length l.left
