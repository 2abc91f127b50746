use Rattle.std.proofs.Common.{rules, ◌≡◌, ℕ, ◌+◌, ◌<◌, inl, inr, subst, arith}
use Rattle.std.proofs.lemmas.Bool.{cases_eq}
use Rattle.seg_ops.specs.page_hash.declared.PageName.{PageName}
use Rattle.seg_ops.specs.vnode_files.declared.vnode.FileInfo.{FileInfo}
use Rattle.seg_ops.specs.vm_types.Pages.{pages_in}
use Rattle.seg_ops.specs.vm_world.World.{world_seen, file_name}
use Rattle.kernel_close.proofs.Records.{page-kept}
use Rattle.kernel_close.specs.Closing.{no_page}
use Rattle.kernel_close.proofs.Fills.{one-name, err-then}
use Rattle.kernel_close.proofs.Pushes.{records-of, pushes-refl, pushes-then, stores-none, stores-then, goes-refl, goes-then, fails-later}
use Rattle.kernel_close.proofs.closing.push_file.Goals as goal

pub loop-page-init : goal.loop-page-init
loop-page-init g c = record {
  pushes = λ spaces fits. pushes-refl (world_seen c.args.world.now) spaces fits c.requires.noted;
  stores = stores-none (world_seen c.args.world.now) _ (λ n is. let low = is.1 in omega (arith, low));
  goes = goes-refl (world_seen c.args.world.now);
}

pub push_if_modified-requires-clause-fits : goal.push_if_modified-requires-clause-fits
push_if_modified-requires-clause-fits g c = (c.requires.fits.0, (c.loop-page.invariant.pushes c.requires.fits.0 c.requires.fits.1).memory)

pub push_if_modified-requires-clause-noted : goal.push_if_modified-requires-clause-noted
push_if_modified-requires-clause-noted g c = (c.loop-page.invariant.pushes c.requires.fits.0 c.requires.fits.1).notes

pub push_if_modified-requires-clause-page : goal.push_if_modified-requires-clause-page
push_if_modified-requires-clause-page g c =
    page-kept c.args.world.now.files c.loop-page.world.files (records-of (world_seen c.args.world.now) (world_seen c.loop-page.world) (c.loop-page.invariant.pushes c.requires.fits.0 c.requires.fits.1).tables) (file_name c.args.file c.loop-page.page) (record {
      file = c.requires.file;
      below = subst (λ (i : FileInfo). c.loop-page.page < pages_in i.length) c.info.ensures.info (subst (λ (n : ℕ). c.loop-page.page < n) c.pages_in-page-end.ensures.pages c.loop-page-test.true);
    })

pub returns-in_err-push_if_modified-clause-fault : goal.returns-in_err-push_if_modified-clause-fault
returns-in_err-push_if_modified-clause-fault g c =
    err-then c.from_residual.result _ _
    (λ fault f. fails-later (world_seen c.args.world.now) (world_seen c.loop-page.world) (world_seen c.push_if_modified.new.world) c.requires.fits.0 fault (c.loop-page.invariant.pushes c.requires.fits.0 c.requires.fits.1) c.loop-page.invariant.goes f)
    (search rules)

pub returns-in_err-push_if_modified-clause-pushes : goal.returns-in_err-push_if_modified-clause-pushes
returns-in_err-push_if_modified-clause-pushes g c = λ spaces fits.
    let first = c.loop-page.invariant.pushes spaces fits in
    pushes-then (world_seen c.args.world.now) (world_seen c.loop-page.world) (world_seen c.push_if_modified.new.world) spaces first (c.in_err-push_if_modified.ensures.pushes spaces first.memory)

pub loop-page-preserved : goal.loop-page-preserved
loop-page-preserved g c = record {
  pushes = λ spaces fits.
      let first = c.loop-page.invariant.pushes spaces fits in
      pushes-then (world_seen c.args.world.now) (world_seen c.loop-page.world) (world_seen c.push_if_modified.new.world) spaces first (c.in_ok-push_if_modified.ensures.pushes spaces first.memory);
  stores = stores-then (world_seen c.args.world.now) (world_seen c.loop-page.world) (world_seen c.push_if_modified.new.world) c.requires.fits.0
      (λ (n : PageName). (n.object ≡ c.args.file) × (n.page < c.loop-page.page)) (λ (n : PageName). n ≡ file_name c.args.file c.loop-page.page) (λ (n : PageName). (n.object ≡ c.args.file) × (n.page < c.loop-page.page + 1))
      (c.loop-page.invariant.pushes c.requires.fits.0 c.requires.fits.1) c.loop-page.invariant.stores c.in_ok-push_if_modified.ensures.stored
      (λ n page is. elim (cases_eq n.page c.loop-page.page) [
        | inl same ↦ inr (one-name n c.args.file c.loop-page.page is.0 same)
        | inr far ↦ let low = is.1 in inl (is.0, omega (arith, low, far))
      ]);
  goes = goes-then (world_seen c.args.world.now) (world_seen c.loop-page.world) (world_seen c.push_if_modified.new.world) c.requires.fits.0 no_page no_page
      (c.loop-page.invariant.pushes c.requires.fits.0 c.requires.fits.1) c.loop-page.invariant.goes c.in_ok-push_if_modified.ensures.goes (λ n none. none);
}
