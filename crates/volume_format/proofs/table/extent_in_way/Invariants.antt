use Rattle.std.proofs.Common.{◌≡◌, drop}
use Rattle.std.specs.List.{find}
use Rattle.volume_format.specs.Table.{all_extents}
use Rattle.volume_format.specs.Place.{is_in_way}
use Rattle.volume_format.proofs.table.extent_in_way.Given as goal

abbrev pub invariant-loop-entry : goal.invariant-loop-entry
invariant-loop-entry l =
    find (is_in_way l.start l.end) (all_extents l.entries) ≡ find (is_in_way l.start l.end) (all_extents (drop l.entry-index l.entries))
