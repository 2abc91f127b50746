use Rattle.std.proofs.Common.{◌≡◌, ◌+◌, ◌≤◌, drop}
use Rattle.vm_script.specs.Counts.{entry_count}
use Rattle.vm_script.proofs.counts.needs_too_many.Given as goal

abbrev pub invariant-loop-line : goal.invariant-loop-line
invariant-loop-line l = record {
  so_far : l.count + entry_count (drop l.line-index l.lines) ≡ entry_count l.lines;
  few : l.count ≤ 1048576;
}
