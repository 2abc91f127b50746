use Rattle.std.proofs.Common.{refl, ap, ◌∙◌, arith}
use Rattle.seg_ops.specs.flat_model.Words.{pages_in}
use Rattle.seg_ops.specs.vnode_files.declared.vnode.FileInfo.{FileInfo}
use Rattle.seg_ops.specs.vm_world.World.{world_seen}
use Rattle.seg_ops.proofs.Modified.{modifies-same, modifies-then}
use Rattle.seg_ops.proofs.StillSteps.{memory_of}
use Rattle.seg_map.proofs.Shortens.{void-first, void-next, void-exists, infos-count, rest-then}
use Rattle.seg_map.proofs.shorter.void_pages.Goals as goal

pub loop-page-init : goal.loop-page-init
loop-page-init g c = record {
  voids = λ spaces fits. void-first (world_seen c.args.world.now) spaces c.args.file c.args.end c.pages_in-from.result fits c.requires.file c.pages_in-from.ensures.pages;
  rest = refl;
  modified = modifies-same (world_seen c.args.world.now);
}

pub loop-page-preserved : goal.loop-page-preserved
loop-page-preserved g c = record {
  voids = λ spaces fits.
      let old = memory_of (world_seen c.args.world.now) spaces in
      let b = c.loop-page.invariant.voids spaces fits in
      let low = c.loop-page.auto.page in
      let high = c.loop-page-test.true in
      let from = c.pages_in-from.ensures.pages in
      let to = c.pages_in-to.ensures.pages ∙ ap (λ (i : FileInfo). pages_in i.length) c.info.ensures.info in
      void-next old (world_seen c.loop-page.world) (world_seen c.void_page.new.world) spaces c.args.file c.args.end c.loop-page.page c.requires.file (omega (arith, low, from)) (omega (arith, high, to)) b
      (c.void_page.ensures.voids spaces b.loses.changes.memory) c.void_page.ensures.files c.void_page.ensures.absent c.void_page.ensures.stay;
  rest = rest-then c.args.world.now c.loop-page.world c.void_page.new.world c.loop-page.invariant.rest c.void_page.ensures.rest;
  modified = modifies-then (world_seen c.args.world.now) (world_seen c.loop-page.world) (world_seen c.void_page.new.world) c.loop-page.invariant.modified c.void_page.ensures.modified;
}

pub void_page-requires-clause-file : goal.void_page-requires-clause-file
void_page-requires-clause-file g c =
    let fits = c.requires.fits in
    let b = c.loop-page.invariant.voids fits.0 fits.1 in
    let count = infos-count c.args.world.now.files c.loop-page.world.files b.infos in
    let there = c.requires.file in
    omega (arith, count, there)

pub void_page-requires-clause-exists : goal.void_page-requires-clause-exists
void_page-requires-clause-exists g c =
    let fits = c.requires.fits in
    let b = c.loop-page.invariant.voids fits.0 fits.1 in
    let high = c.loop-page-test.true in
    let to = c.pages_in-to.ensures.pages ∙ ap (λ (i : FileInfo). pages_in i.length) c.info.ensures.info in
    void-exists (memory_of (world_seen c.args.world.now) fits.0) (world_seen c.loop-page.world) fits.0 c.args.file c.args.end c.loop-page.page c.requires.file (omega (arith, high, to)) b

pub void_page-requires-clause-fits : goal.void_page-requires-clause-fits
void_page-requires-clause-fits g c = let fits = c.requires.fits in (fits.0, (c.loop-page.invariant.voids fits.0 fits.1).loses.changes.memory)
