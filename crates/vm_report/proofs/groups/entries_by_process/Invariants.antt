use Rattle.std.proofs.Common.{◌≡◌, ℕ, ◌<◌, ◌++◌, [], length, drop, map}
use Rattle.std.specs.Prelude.{All, slice_index_or}
use Rattle.vm_script.specs.flat_model.Told.{entries_of}
use Rattle.vm_report.specs.Runs.{AreWithin, runs_seen}
use Rattle.vm_report.proofs.groups.entries_by_process.Given as goal

abbrev pub invariant-loop-index : goal.invariant-loop-index
invariant-loop-index l = record {
  count : length l.groups.items ≡ l.count;
  each : (p : ℕ) → p < l.count → slice_index_or (map (runs_seen l.history) l.groups.items) p [] ++ entries_of (drop l.index l.history) p ≡ entries_of l.history p;
  within : All (AreWithin (length l.history)) l.groups.items;
}
