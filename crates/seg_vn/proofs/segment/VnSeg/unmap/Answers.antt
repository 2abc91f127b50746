use Rattle.std.proofs.Common.{◌≡◌, ℕ, None, refl, ap, ◌∙◌, inl, inr, arith}
use Rattle.std.proofs.lemmas.Bool.{cases_eq}
use Rattle.seg_ops.specs.hat_layer.Pool.{translation_at, drop_page}
use Rattle.seg_ops.specs.vm_world.World.{world_seen}
use Rattle.seg_ops.specs.vm_world.declared.world.World.{World}
use Rattle.seg_ops.proofs.Composed.{keeps-then, keeps-same}
use Rattle.seg_ops.proofs.Modified.{modifies-same, modifies-then}
use Rattle.seg_vn.proofs.segment.VnSeg.unmap.Goals as goal

pub loop-page-init : goal.loop-page-init
loop-page-init g c = record {
  gone = λ q low high. absurd (omega (arith, low, high));
  none = λ s q is. is;
  modified = modifies-same (world_seen c.args.world.now);
  rest = refl;
  keeps = λ spaces fits. keeps-same (world_seen c.args.world.now) spaces fits;
}

pub drop_translation-requires : goal.drop_translation-requires
drop_translation-requires g c = record { fits = (c.requires.fits.0, (c.loop-page.invariant.keeps c.requires.fits.0 c.requires.fits.1).memory) }

pub loop-page-preserved : goal.loop-page-preserved
loop-page-preserved g c =
    let none = λ (s q : ℕ) (is : translation_at c.loop-page.world.hat.places s q ≡ None). c.drop_translation.ensures.map s q ∙ ap (drop_page c.args.space c.loop-page.page) is in
    record {
      gone = λ q low high. elim (cases_eq q c.loop-page.page) [
        | inl same ↦ ap (translation_at c.drop_translation.new.world.hat.places c.args.space) same ∙ c.drop_translation.ensures.gone
        | inr apart ↦ none c.args.space q (c.loop-page.invariant.gone q low (omega (arith, high, apart)))
      ];
      none = λ s q is. none s q (c.loop-page.invariant.none s q is);
      modified = modifies-then (world_seen c.args.world.now) (world_seen c.loop-page.world) (world_seen c.drop_translation.new.world) c.loop-page.invariant.modified c.drop_translation.ensures.modified;
      rest = c.drop_translation.ensures.rest ∙ ap (λ (w : World g.row.D.Denot). record w { store = c.drop_translation.new.world.store; hat = c.drop_translation.new.world.hat }) c.loop-page.invariant.rest;
      keeps = λ spaces fits.
          let before = c.loop-page.invariant.keeps spaces fits in
          keeps-then (world_seen c.args.world.now) (world_seen c.loop-page.world) (world_seen c.drop_translation.new.world) spaces fits before (c.drop_translation.ensures.keeps spaces before.memory);
    }

pub returns-clause-unloaded : goal.returns-clause-unloaded
returns-clause-unloaded g c = λ q low high. c.loop-page.invariant.gone q low (omega (arith, high))
