use Rattle.std.proofs.Common.{rules, ◌≡◌, ℕ, ◌+◌, ◌<◌, inl, inr, subst, arith}
use Rattle.std.proofs.lemmas.Bool.{cases_eq}
use Rattle.seg_ops.specs.page_hash.declared.PageName.{PageName}
use Rattle.seg_ops.specs.page_store.Bays.{pairs_seen}
use Rattle.seg_ops.specs.vnode_files.declared.vnode.FileInfo.{FileInfo}
use Rattle.seg_ops.specs.vm_types.Pages.{pages_in}
use Rattle.seg_ops.specs.vm_world.World.{file_name}
use Rattle.kernel_close.proofs.Records.{page-kept}
use Rattle.kernel_close.specs.Closing.{no_page}
use Rattle.kernel_close.proofs.Fills.{writes-then, fills-then, zeroed-then, fails-then, err-then, one-name}
use Rattle.kernel_close.proofs.blanks.fill_file.Goals as goal

pub fill_page-requires-clause-page : goal.fill_page-requires-clause-page
fill_page-requires-clause-page g c = page-kept c.args.files.now c.loop-page.files c.loop-page.invariant.writes.records (file_name c.args.file c.loop-page.page) (record {
  file = c.requires.file;
  below = subst (λ (i : FileInfo). c.loop-page.page < pages_in i.length) c.info.ensures.info (subst (λ (n : ℕ). c.loop-page.page < n) c.pages_in-page-end.ensures.pages c.loop-page-test.true);
})

pub returns-in_err-fill_page-clause-writes : goal.returns-in_err-fill_page-clause-writes
returns-in_err-fill_page-clause-writes g c = writes-then c.args.files.now c.loop-page.files c.fill_page.new.files (pairs_seen g.D.Disk.seen c.args.disks.now) (pairs_seen g.D.Disk.seen c.loop-page.disks) (pairs_seen g.D.Disk.seen c.fill_page.new.disks)
    c.loop-page.invariant.writes c.in_err-fill_page.ensures.writes

pub returns-in_err-fill_page-clause-fault : goal.returns-in_err-fill_page-clause-fault
returns-in_err-fill_page-clause-fault g c =
    err-then c.from_residual.result _ _
    (λ fault f. fails-then c.args.files.now c.loop-page.files (pairs_seen g.D.Disk.seen c.args.disks.now) (pairs_seen g.D.Disk.seen c.loop-page.disks) (pairs_seen g.D.Disk.seen c.fill_page.new.disks) (λ (n : PageName). (n.object ≡ c.args.file) × (n.page < c.loop-page.page)) fault c.loop-page.invariant.writes c.loop-page.invariant.fills c.loop-page.invariant.zeroed f)
    (search rules)

pub loop-page-preserved : goal.loop-page-preserved
loop-page-preserved g c = record {
  writes = writes-then c.args.files.now c.loop-page.files c.fill_page.new.files (pairs_seen g.D.Disk.seen c.args.disks.now) (pairs_seen g.D.Disk.seen c.loop-page.disks) (pairs_seen g.D.Disk.seen c.fill_page.new.disks)
      c.loop-page.invariant.writes c.in_ok-fill_page.ensures.writes;
  fills = fills-then c.args.files.now c.loop-page.files c.fill_page.new.files (pairs_seen g.D.Disk.seen c.args.disks.now) (pairs_seen g.D.Disk.seen c.loop-page.disks) (pairs_seen g.D.Disk.seen c.fill_page.new.disks)
      (λ (n : PageName). (n.object ≡ c.args.file) × (n.page < c.loop-page.page)) (λ (n : PageName). n ≡ file_name c.args.file c.loop-page.page) (λ (n : PageName). (n.object ≡ c.args.file) × (n.page < c.loop-page.page + 1))
      c.loop-page.invariant.writes c.loop-page.invariant.fills c.in_ok-fill_page.ensures.fills
      (λ n page is. elim (cases_eq n.page c.loop-page.page) [
        | inl same ↦ inr (one-name n c.args.file c.loop-page.page is.0 same)
        | inr far ↦ let low = is.1 in inl (is.0, omega (arith, low, far))
      ]);
  zeroed = zeroed-then c.args.files.now c.loop-page.files (pairs_seen g.D.Disk.seen c.args.disks.now) (pairs_seen g.D.Disk.seen c.loop-page.disks) (pairs_seen g.D.Disk.seen c.fill_page.new.disks) (λ (n : PageName). (n.object ≡ c.args.file) × (n.page < c.loop-page.page)) no_page no_page
      c.loop-page.invariant.writes c.loop-page.invariant.fills c.loop-page.invariant.zeroed c.in_ok-fill_page.ensures.goes (λ n none. none);
}
