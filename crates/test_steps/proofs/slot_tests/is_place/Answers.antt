use Rattle.std.proofs.Common.{◌≡◌, ◌<◌, ℕ, ap, ◌∙◌, subst}
use Rattle.std.specs.Prelude.{is_some, not}
use Rattle.hat_layer.specs.Pool.{translation_at}
use Rattle.hat_layer.specs.declared.translation.Translation.{Translation}
use Rattle.seg_ops.specs.vm_world.World.{world_seen}
use Rattle.test_steps.specs.SlotTrials.{holding_page}
use Rattle.test_steps.proofs.SlotTrialLemmas.{holding-owns, holding-unloaded}
use Rattle.test_steps.proofs.slot_tests.is_place.Goals as goal

pub returns-then-place-pages : goal.returns-then-place-pages
returns-then-place-pages c = λ none. record {
  there = c.is_there.ensures.0 c.if-not-is_there.false;
  within = subst (λ (n : ℕ). c.args.place < n) c.pages.ensures c.if-place-pages.true;
  owns = holding-owns (world_seen c.args.world.now) c.args.map c.args.place c.requires.fits c.if-map-ge2.false c.if-place-ge2.false;
  unloaded = let e : is_some c.find.result ≡ not c.is_none.result = c.is_none.ensures in
      holding-unloaded (λ (t : Translation). (t.frame, t.writable)) (translation_at c.args.world.now.hat.places 1 (holding_page c.args.map c.args.place)) c.find.result c.find.ensures.found (e ∙ ap not none);
}
