use Rattle.std.proofs.Common.{◌≡◌, ◌≤◌, take}
use Rattle.std.specs.Prelude.{count_by}
use Rattle.vm_report.specs.Summary.{is_signal}
use Rattle.vm_report.proofs.summaries.signals.Given as goal

abbrev pub invariant-loop-place : goal.invariant-loop-place
invariant-loop-place l = record {
  so_far : l.count ≡ count_by (λ e. is_signal e.reply) (take l.place l.history);
  few : l.count ≤ l.place;
}
