use Rattle.std.proofs.Common.{◌≡◌, ◌<◌}
use Rattle.seg_ops.specs.page_store.Bays.{pairs_seen}
use Rattle.kernel_close.specs.Closing.{WritesBlanks, FillsPages, ZeroedOrStay, no_page}
use Rattle.kernel_close.proofs.blanks.fill_file.Given as goal

abbrev pub invariant-loop-page : goal.invariant-loop-page
invariant-loop-page g l = record {
  writes : WritesBlanks l.fn.files (pairs_seen g.D.Disk.seen l.fn.disks) l.files (pairs_seen g.D.Disk.seen l.disks);
  fills : FillsPages l.fn.files (pairs_seen g.D.Disk.seen l.fn.disks) l.files (pairs_seen g.D.Disk.seen l.disks) (λ n. (n.object ≡ l.file) × (n.page < l.page));
  zeroed : ZeroedOrStay l.fn.files (pairs_seen g.D.Disk.seen l.fn.disks) (pairs_seen g.D.Disk.seen l.disks) no_page;
}
