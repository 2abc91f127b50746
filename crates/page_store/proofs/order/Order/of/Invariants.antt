use Rattle.std.proofs.Common.{◌≡◌, length, take}
use Rattle.std.specs.Prelude.{vec_len, vec_capacity}
use Rattle.page_store.specs.Bays.{numbers_of}
use Rattle.page_store.proofs.order.Order.of.Given as goal

abbrev pub invariant-loop-disk : goal.invariant-loop-disk
invariant-loop-disk g l = record {
  numbers : l.numbers.items ≡ numbers_of (take l.disk-index l.disks);
  count : vec_len l.numbers ≡ l.disk-index;
  room : vec_capacity l.numbers ≡ length l.disks;
}
