use Rattle.std.proofs.Common.{rules, ◌≡◌, ◌+◌, ◌<◌, inl, inr, arith}
use Rattle.std.proofs.lemmas.Bool.{cases_eq}
use Rattle.seg_ops.specs.page_hash.declared.PageName.{PageName}
use Rattle.seg_ops.specs.page_store.Bays.{pairs_seen}
use Rattle.kernel_close.specs.Closing.{no_page}
use Rattle.kernel_close.proofs.Fills.{writes-then, fills-then, zeroed-then, fails-then, err-then}
use Rattle.kernel_close.proofs.blanks.fill_files.Goals as goal

pub returns-in_err-fill_file-clause-writes : goal.returns-in_err-fill_file-clause-writes
returns-in_err-fill_file-clause-writes g c = writes-then c.args.files.now c.loop-file.files c.fill_file.new.files (pairs_seen g.D.Disk.seen c.args.disks.now) (pairs_seen g.D.Disk.seen c.loop-file.disks) (pairs_seen g.D.Disk.seen c.fill_file.new.disks)
    c.loop-file.invariant.writes c.in_err-fill_file.ensures.writes

pub returns-in_err-fill_file-clause-fault : goal.returns-in_err-fill_file-clause-fault
returns-in_err-fill_file-clause-fault g c =
    err-then c.from_residual.result _ _
    (λ fault f. fails-then c.args.files.now c.loop-file.files (pairs_seen g.D.Disk.seen c.args.disks.now) (pairs_seen g.D.Disk.seen c.loop-file.disks) (pairs_seen g.D.Disk.seen c.fill_file.new.disks) (λ (n : PageName). n.object < c.loop-file.file) fault c.loop-file.invariant.writes c.loop-file.invariant.fills c.loop-file.invariant.zeroed f)
    (search rules)

pub loop-file-preserved : goal.loop-file-preserved
loop-file-preserved g c = record {
  writes = writes-then c.args.files.now c.loop-file.files c.fill_file.new.files (pairs_seen g.D.Disk.seen c.args.disks.now) (pairs_seen g.D.Disk.seen c.loop-file.disks) (pairs_seen g.D.Disk.seen c.fill_file.new.disks)
      c.loop-file.invariant.writes c.in_ok-fill_file.ensures.writes;
  fills = fills-then c.args.files.now c.loop-file.files c.fill_file.new.files (pairs_seen g.D.Disk.seen c.args.disks.now) (pairs_seen g.D.Disk.seen c.loop-file.disks) (pairs_seen g.D.Disk.seen c.fill_file.new.disks)
      (λ (n : PageName). n.object < c.loop-file.file) (λ (n : PageName). n.object ≡ c.loop-file.file) (λ (n : PageName). n.object < c.loop-file.file + 1)
      c.loop-file.invariant.writes c.loop-file.invariant.fills c.in_ok-fill_file.ensures.fills
      (λ n page is. elim (cases_eq n.object c.loop-file.file) [ inl same ↦ inr same | inr far ↦ inl (omega (arith, is, far)) ]);
  zeroed = zeroed-then c.args.files.now c.loop-file.files (pairs_seen g.D.Disk.seen c.args.disks.now) (pairs_seen g.D.Disk.seen c.loop-file.disks) (pairs_seen g.D.Disk.seen c.fill_file.new.disks) (λ (n : PageName). n.object < c.loop-file.file) no_page no_page
      c.loop-file.invariant.writes c.loop-file.invariant.fills c.loop-file.invariant.zeroed c.in_ok-fill_file.ensures.goes (λ n none. none);
}
