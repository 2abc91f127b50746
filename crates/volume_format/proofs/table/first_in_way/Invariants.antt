use Rattle.std.proofs.Common.{◌≡◌, drop}
use Rattle.std.specs.List.{find}
use Rattle.volume_format.specs.Place.{is_in_way}
use Rattle.volume_format.proofs.table.first_in_way.Given as goal

abbrev pub invariant-loop-extent : goal.invariant-loop-extent
invariant-loop-extent l = find (is_in_way l.start l.end) l.extents ≡ find (is_in_way l.start l.end) (drop l.extent-index l.extents)
