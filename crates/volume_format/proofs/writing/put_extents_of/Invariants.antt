use Rattle.std.proofs.Common.{◌≡◌, take}
use Rattle.std.specs.List.{flat_map}
use Rattle.volume_format.specs.Writing.{extent_bytes, with_block_bytes}
use Rattle.volume_format.proofs.writing.put_extents_of.Given as goal

abbrev pub invariant-loop-i : goal.invariant-loop-i
invariant-loop-i l = l.into ≡ with_block_bytes l.initial.into l.at (flat_map extent_bytes (take l.i l.extents))
