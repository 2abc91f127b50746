use Rattle.std.proofs.Common.{◌≤◌, ◌<◌, ◌+◌, ◌-◌, ◌^◌, ℕ}
use Rattle.volume_format.specs.Table.{IsFreePlace, all_extents}
use Rattle.volume_format.proofs.table.least_place.Given as goal

abbrev pub invariant-loop-start : goal.invariant-loop-start
invariant-loop-start l = record {
  first : 1 ≤ l.start;
  small : l.start < 2 ^ 33;
  none : (before : ℕ) → before < l.start → IsFreePlace l.blocks (all_extents l.entries) l.pages before → ⊥;
}

abbrev pub decreases-loop-start : goal.decreases-loop-start
decreases-loop-start l = l.blocks + 1 - l.start
