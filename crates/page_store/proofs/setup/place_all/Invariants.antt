use Rattle.std.proofs.Common.{◌≡◌, length}
use Rattle.std.specs.Prelude.{vec_len}
use Rattle.page_store.specs.Bays.{bays_with, pairs_seen}
use Rattle.page_store.proofs.BayLemmas.{AreBelow}
use Rattle.page_store.proofs.setup.place_all.Given as goal

abbrev pub decreases-loop-number : goal.decreases-loop-number
decreases-loop-number g l = vec_len l.disks

abbrev pub invariant-loop-number : goal.invariant-loop-number
invariant-loop-number g l = record {
  all : bays_with (pairs_seen g.D.Disk.seen l.disks.items) l.bays ≡ bays_with (pairs_seen g.D.Disk.seen l.initial.disks.items) l.initial.bays;
  nine : length l.bays ≡ 9;
  below : AreBelow l.disks.items;
}
