use Rattle.std.proofs.Common.{◌≡◌, ℕ, ◌≤◌, ◌<◌, length, take}
use Rattle.std.specs.Prelude.{vec_len, vec_capacity, slice_index}
use Rattle.page_store.specs.Bays.{bay_at, pairs_seen, disks_in}
use Rattle.page_store.proofs.order.Order.collect.Given as goal

abbrev pub invariant-loop-number : goal.invariant-loop-number
invariant-loop-number g l = record {
  all : l.number-items ≡ l.fn.self;
  got : pairs_seen g.D.Disk.seen l.room.items ≡ disks_in l.fn.bays (take l.number-index l.fn.self);
  rest : (j : ℕ) → l.number-index ≤ j → j < length l.fn.self → bay_at l.bays (slice_index l.fn.self j) ≡ bay_at l.fn.bays (slice_index l.fn.self j);
  wide : length l.bays ≡ length l.fn.bays;
  count : vec_len l.room ≡ l.number-index;
  space : length l.fn.self ≤ vec_capacity l.room;
}
