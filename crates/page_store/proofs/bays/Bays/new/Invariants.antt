use Rattle.std.proofs.Common.{◌≡◌, replicate}
use Rattle.std.specs.Prelude.{map, vec_len, vec_capacity}
use Rattle.page_store.specs.Bays.{bay_seen, missing}
use Rattle.page_store.proofs.bays.Bays.new.Given as goal

abbrev pub invariant-loop-made : goal.invariant-loop-made
invariant-loop-made g l = record {
  made : map (bay_seen g.D.Disk.seen) l.bays.items ≡ replicate l._made missing;
  count : vec_len l.bays ≡ l._made;
  room : vec_capacity l.bays ≡ 9;
}
