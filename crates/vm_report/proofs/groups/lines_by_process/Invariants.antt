use Rattle.std.proofs.Common.{◌≡◌, ℕ, ◌<◌, ◌++◌, ◌==◌, [], length, drop}
use Rattle.std.specs.Prelude.{filter, slice_index_or}
use Rattle.vm_report.proofs.groups.lines_by_process.Given as goal

abbrev pub invariant-loop-line : goal.invariant-loop-line
invariant-loop-line l = record {
  count : length l.groups.items ≡ l.count;
  each : (p : ℕ) → p < l.count → slice_index_or l.groups.items p [] ++ filter (λ x. x.process == p) (drop l.line-index l.lines) ≡ filter (λ x. x.process == p) l.lines;
}
