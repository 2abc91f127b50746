use Rattle.std.proofs.Common.{◌≡◌, length, take}
use Rattle.volume_format.specs.Table.{all_extents}
use Rattle.volume_format.proofs.table.count_extents.Given as goal

abbrev pub invariant-loop-entry : goal.invariant-loop-entry
invariant-loop-entry l = l.count ≡ length (all_extents (take l.entry-index l.entries))
