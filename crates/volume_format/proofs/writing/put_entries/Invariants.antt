use Rattle.std.proofs.Common.{◌≡◌, ◌*◌, length}
use Rattle.std.specs.List.{flat_map, range_with_len}
use Rattle.volume_format.specs.Writing.{entry_bytes, extents_up_to, with_block_bytes}
use Rattle.volume_format.proofs.writing.put_entries.Given as goal

abbrev pub invariant-loop-i : goal.invariant-loop-i
invariant-loop-i l = record {
  first : l.first ≡ extents_up_to l.entries l.i;
  size : length (flat_map (entry_bytes l.entries) (range_with_len 0 l.i)) ≡ 32 * l.i;
  into : l.into ≡ with_block_bytes l.initial.into 32 (flat_map (entry_bytes l.entries) (range_with_len 0 l.i));
}
