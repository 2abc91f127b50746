use Rattle.std.proofs.Common.{rules, ◌≡◌, ◌+◌, ◌<◌, inl, inr, arith}
use Rattle.std.proofs.lemmas.Bool.{cases_eq}
use Rattle.seg_ops.specs.page_hash.declared.PageName.{PageName}
use Rattle.seg_ops.specs.vm_world.World.{world_seen}
use Rattle.kernel_close.specs.Closing.{no_page}
use Rattle.kernel_close.proofs.Fills.{err-then}
use Rattle.kernel_close.proofs.Pushes.{pushes-refl, pushes-then, stores-none, stores-then, goes-refl, goes-then, fails-later}
use Rattle.kernel_close.proofs.closing.push_files.Goals as goal

pub loop-file-init : goal.loop-file-init
loop-file-init g c = record {
  pushes = λ spaces fits. pushes-refl (world_seen c.args.world.now) spaces fits c.requires.noted;
  stores = stores-none (world_seen c.args.world.now) _ (λ n is. omega (arith, is));
  goes = goes-refl (world_seen c.args.world.now);
}

pub push_file-requires-clause-fits : goal.push_file-requires-clause-fits
push_file-requires-clause-fits g c = (c.requires.fits.0, (c.loop-file.invariant.pushes c.requires.fits.0 c.requires.fits.1).memory)

pub push_file-requires-clause-noted : goal.push_file-requires-clause-noted
push_file-requires-clause-noted g c = (c.loop-file.invariant.pushes c.requires.fits.0 c.requires.fits.1).notes

pub returns-in_err-push_file-clause-fault : goal.returns-in_err-push_file-clause-fault
returns-in_err-push_file-clause-fault g c =
    err-then c.from_residual.result _ _
    (λ fault f. fails-later (world_seen c.args.world.now) (world_seen c.loop-file.world) (world_seen c.push_file.new.world) c.requires.fits.0 fault (c.loop-file.invariant.pushes c.requires.fits.0 c.requires.fits.1) c.loop-file.invariant.goes f)
    (search rules)

pub returns-in_err-push_file-clause-pushes : goal.returns-in_err-push_file-clause-pushes
returns-in_err-push_file-clause-pushes g c = λ spaces fits.
    let first = c.loop-file.invariant.pushes spaces fits in
    pushes-then (world_seen c.args.world.now) (world_seen c.loop-file.world) (world_seen c.push_file.new.world) spaces first (c.in_err-push_file.ensures.pushes spaces first.memory)

pub loop-file-preserved : goal.loop-file-preserved
loop-file-preserved g c = record {
  pushes = λ spaces fits.
      let first = c.loop-file.invariant.pushes spaces fits in
      pushes-then (world_seen c.args.world.now) (world_seen c.loop-file.world) (world_seen c.push_file.new.world) spaces first (c.in_ok-push_file.ensures.pushes spaces first.memory);
  stores = stores-then (world_seen c.args.world.now) (world_seen c.loop-file.world) (world_seen c.push_file.new.world) c.requires.fits.0
      (λ (n : PageName). n.object < c.loop-file.file) (λ (n : PageName). n.object ≡ c.loop-file.file) (λ (n : PageName). n.object < c.loop-file.file + 1)
      (c.loop-file.invariant.pushes c.requires.fits.0 c.requires.fits.1) c.loop-file.invariant.stores c.in_ok-push_file.ensures.stored
      (λ n page is. elim (cases_eq n.object c.loop-file.file) [ inl same ↦ inr same | inr far ↦ inl (omega (arith, is, far)) ]);
  goes = goes-then (world_seen c.args.world.now) (world_seen c.loop-file.world) (world_seen c.push_file.new.world) c.requires.fits.0 no_page no_page
      (c.loop-file.invariant.pushes c.requires.fits.0 c.requires.fits.1) c.loop-file.invariant.goes c.in_ok-push_file.ensures.goes (λ n none. none);
}
