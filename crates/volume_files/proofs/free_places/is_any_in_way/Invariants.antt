use Rattle.std.specs.Prelude.{◌≡◌, drop}
use Rattle.std.specs.List.{list_any}
use Rattle.volume_format.specs.Place.{is_in_way}
use Rattle.volume_files.proofs.free_places.is_any_in_way.Given as goal

-- it is among those that are left
abbrev pub invariant-loop-extent : goal.invariant-loop-extent
invariant-loop-extent l = list_any (is_in_way l.start l.end) (drop l.extent-index l.extents) ≡ list_any (is_in_way l.start l.end) l.extents
