use Rattle.std.proofs.Common.{◌≡◌, ℕ, ◌<◌, ◌||◌, false, length, drop}
use Rattle.std.specs.Prelude.{slice_index_or}
use Rattle.std.specs.List.{list_any}
use Rattle.vm_script.specs.Told.{is_birth}
use Rattle.vm_report.proofs.groups.births_of.Given as goal

abbrev pub invariant-loop-place : goal.invariant-loop-place
invariant-loop-place l = record {
  count : length l.births.items ≡ l.count;
  each : (p : ℕ) → p < l.count → (slice_index_or l.births.items p false || list_any (is_birth p) (drop l.place l.history)) ≡ list_any (is_birth p) l.history;
}
