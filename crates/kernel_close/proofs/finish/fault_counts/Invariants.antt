use Rattle.std.proofs.Common.{◌≡◌, ℕ, ◌<◌, length, None, slice_index_or}
use Rattle.seg_ops.specs.page_store.Bays.{bay_at, home_faults}
use Rattle.kernel_close.proofs.finish.fault_counts.Given as goal

abbrev pub invariant-loop-disk : goal.invariant-loop-disk
invariant-loop-disk g l = record {
  long : length l.counts ≡ 9;
  told : (k : ℕ) → k < l.disk → slice_index_or l.counts k None ≡ home_faults (bay_at l.store.bays k);
}
