use Rattle.std.proofs.Common.{◌≡◌, map}
use Rattle.std.specs.List.{range_with_len}
use Rattle.volume_format.specs.Layout.{file_in, file_count}
use Rattle.volume_format.proofs.reading.table_in.Given as goal

abbrev pub invariant-loop-i : goal.invariant-loop-i
invariant-loop-i l = record {
  count : l.count ≡ file_count l.block;
  items : l.entries.items ≡ map (file_in l.block) (range_with_len 0 l.i);
}
