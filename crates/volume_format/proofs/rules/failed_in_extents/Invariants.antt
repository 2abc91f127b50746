use Rattle.std.proofs.Common.{◌≡◌, ◌+◌, ◌-◌}
use Rattle.std.specs.List.{flat_map, range_with_len}
use Rattle.volume_format.specs.Layout.{first_extent, extents_number}
use Rattle.volume_format.specs.Rules.{first_failed, extent_tests}
use Rattle.volume_format.proofs.rules.failed_in_extents.Given as goal

abbrev pub invariant-loop-j : goal.invariant-loop-j
invariant-loop-j l = record {
  first : l.first ≡ first_extent l.block l.i;
  end : l.end ≡ first_extent l.block l.i + extents_number l.block l.i;
  rest : first_failed (flat_map (extent_tests l.block l.blocks l.i) (range_with_len (first_extent l.block l.i) (extents_number l.block l.i)))
      ≡ first_failed (flat_map (extent_tests l.block l.blocks l.i) (range_with_len l.j (l.end - l.j)));
}
