use Rattle.std.proofs.Common.{◌≡◌, ◌-◌, ◌+◌, map}
use Rattle.std.specs.List.{range_with_len}
use Rattle.volume_format.specs.Layout.{table_extent, first_extent, extents_number}
use Rattle.volume_format.proofs.reading.extents_in.Given as goal

abbrev pub invariant-loop-j : goal.invariant-loop-j
invariant-loop-j l = record {
  first : l.first ≡ first_extent l.block l.i;
  end : l.end ≡ first_extent l.block l.i + extents_number l.block l.i;
  items : l.extents.items ≡ map (table_extent l.block) (range_with_len (first_extent l.block l.i) (l.j - l.first));
}
