use Rattle.std.proofs.Common.{◌≡◌, ℕ, ap, ◌∙◌, arith}
use Rattle.seg_ops.specs.flat_model.Words.{pages_in}
use Rattle.seg_ops.specs.vnode_files.declared.vnode.FileInfo.{FileInfo}
use Rattle.seg_ops.specs.vnode_files.Files.{vnode_at, growth_of}
use Rattle.seg_ops.proofs.vnode_files.GrowthLaws.{growth_law}
use Rattle.seg_ops.specs.vnode_files.Layout.{GrowthGives}
use Rattle.std.specs.Prelude.{remove}
use Rattle.seg_ops.specs.vnode_files.Files.{block_count, extents_on, with_growth}
use Rattle.seg_map.proofs.Blanking.{grown-first, blank-more, end-set, as-far}
use Rattle.seg_map.proofs.records.set_end.Goals as goal

pub loop-page-init : goal.loop-page-init
loop-page-init c = record {
  blanks = λ extents grown.
      let from : c.pages_in-from.result ≡ pages_in (vnode_at c.args.files.now c.args.file).info.length = c.pages_in-from.ensures.pages ∙ ap (λ (i : FileInfo). pages_in i.length) c.info.ensures.info in
      let w = c.info.ensures.sound.within in
      grown-first c.args.files.now c.grow.new.self c.args.file (pages_in c.args.end) c.pages_in-from.result extents c.requires.file c.info.ensures.sound grown
      (c.grow.ensures.new ∙ ap (λ (n : ℕ). with_growth c.args.files.now c.args.file (growth_of c.args.files.now c.args.file n)) c.pages_in-to.ensures.pages) c.info-grown.ensures.sound c.grow.ensures.layout (omega (arith, from, w));
}

pub loop-page-preserved : goal.loop-page-preserved
loop-page-preserved c = record {
  blanks = λ extents grown.
      let b = c.loop-page.invariant.blanks extents grown in
      let old = c.args.files.now in
      let own = (vnode_at old c.args.file).info in
      let gives : GrowthGives (block_count old.disks own.disk) (extents_on own.disk (remove old.files c.args.file)) own.extents (pages_in c.args.end) extents = growth_law (block_count old.disks own.disk) (extents_on own.disk (remove old.files c.args.file)) own.extents (pages_in c.args.end) extents grown in
      let count = gives.count in
      let lt = c.loop-page-test.true in
      let to = c.pages_in-to.ensures.pages in
      let low = c.loop-page.auto.page in
      let same = b.count in
      let there = c.requires.file in
      blank-more old c.loop-page.files c.set_blank.new.self c.args.file c.loop-page.page c.pages_in-from.result extents (omega (arith, same, there)) b (omega (arith, low)) (omega (arith, count, lt, to)) c.set_blank.ensures.new c.set_blank.ensures.layout;
}

pub returns : goal.returns
returns c = record {
  sets = λ extents grown.
      let old = c.args.files.now in
      let own = (vnode_at old c.args.file).info in
      let gives : GrowthGives (block_count old.disks own.disk) (extents_on own.disk (remove old.files c.args.file)) own.extents (pages_in c.args.end) extents = growth_law (block_count old.disks own.disk) (extents_on own.disk (remove old.files c.args.file)) own.extents (pages_in c.args.end) extents grown in
      let from : c.pages_in-from.result ≡ pages_in own.length = c.pages_in-from.ensures.pages ∙ ap (λ (i : FileInfo). pages_in i.length) c.info.ensures.info in
      let past = c.loop-page-test.false in
      let to = c.pages_in-to.ensures.pages in
      end-set old c.loop-page.files c.set_length.new.self c.args.file c.args.end extents c.requires.file
      (as-far old c.loop-page.files c.args.file extents c.pages_in-from.result (pages_in own.length) c.loop-page.page (pages_in c.args.end) from (omega (arith, past, to)) (c.loop-page.invariant.blanks extents grown))
      gives c.requires.some c.info-cut.ensures.sound c.set_length.ensures.new c.set_length.ensures.layout;
}
