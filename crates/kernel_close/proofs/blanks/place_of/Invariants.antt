use Rattle.std.proofs.Common.{◌≢◌, ℕ, ◌<◌}
use Rattle.seg_ops.specs.page_store.Bays.{pairs_seen}
use Rattle.kernel_close.specs.Finish.{disk_at}
use Rattle.kernel_close.proofs.blanks.place_of.Given as goal

abbrev pub invariant-loop-at : goal.invariant-loop-at
invariant-loop-at g l = (i : ℕ) → i < l.at → (disk_at (pairs_seen g.D.Disk.seen l.disks) i).0 ≢ l.number
