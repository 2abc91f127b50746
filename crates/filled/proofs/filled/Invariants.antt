use Rattle.std.proofs.Common.{◌≡◌, ◌-◌, ◌≤◌, length, replicate, vec_len}
use Rattle.filled.proofs.filled.Given as goal

abbrev pub invariant-loop-item : goal.invariant-loop-item
invariant-loop-item g l = record {
  item : l.item ≡ l.fn.item;
  made : l.made.items ≡ replicate (length l.made.items) l.fn.item;
  within : length l.made.items ≤ l.fn.count;
}

abbrev pub decreases-loop-item : goal.decreases-loop-item
decreases-loop-item g l = l.fn.count - vec_len l.made
