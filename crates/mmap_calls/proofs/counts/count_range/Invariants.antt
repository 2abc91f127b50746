use Rattle.std.proofs.Common.{◌≡◌, ◌≤◌, ℕ, length, get_or}
use Rattle.mmap_calls.specs.RangeCounts.{count_within, pages_within, slots_within}
use Rattle.mmap_calls.proofs.PartsFrom.{sum_from}
use Rattle.mmap_calls.proofs.counts.count_range.Given as goal

abbrev pub decreases-loop-begin : goal.decreases-loop-begin
decreases-loop-begin g l = l.below

abbrev pub invariant-loop-begin : goal.invariant-loop-begin
invariant-loop-begin g l = record {
  high : l.below ≤ l.end;
  pages : l.counts.pages ≡ sum_from (pages_within l.first l.end) l.space.parts l.below;
  slots : l.counts.slots ≡ sum_from (slots_within l.first l.end) l.space.parts l.below;
  shown : (z : ℕ) → get_or l.counts.shown.items z 0 ≡ sum_from (count_within l.first l.end z) l.space.parts l.below;
  len : length l.counts.shown.items ≡ length l.world.zeros;
}
