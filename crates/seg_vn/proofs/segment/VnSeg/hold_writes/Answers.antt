use Rattle.std.proofs.Common.{◌≡◌, ℕ, ◌+◌, ◌<◌, refl, sym, ap, ◌∙◌, inl, inr, subst, arith}
use Rattle.std.proofs.lemmas.Bool.{cases_eq}
use Rattle.seg_ops.specs.vm_world.World.{world_seen}
use Rattle.seg_ops.specs.vm_world.declared.world.World.{World}
use Rattle.seg_ops.specs.Writers.{HasNoWriter}
use Rattle.seg_ops.proofs.Composed.{keeps-then}
use Rattle.seg_ops.proofs.Modified.{modifies-same, modifies-then}
use Rattle.seg_vn.proofs.Writers.{no-writer-then, writers-then}
use Rattle.seg_vn.proofs.segment.VnSeg.hold_writes.Goals as goal

pub loop-page-preserved : goal.loop-page-preserved
loop-page-preserved g c =
    let old = c.args.world.now in
    let cur = c.loop-page.world in
    let new = c.protect.new.world in
    record {
      none = λ q low high. elim (cases_eq q c.loop-page.page) [
        | inl here ↦ subst (HasNoWriter new.hat.places c.args.space) (sym here) c.protect.ensures.none
        | inr apart ↦ no-writer-then cur.hat.places new.hat.places c.args.space q (c.loop-page.invariant.none q low (omega (arith, high, apart))) c.protect.ensures.stay
      ];
      stay = writers-then old.hat.places cur.hat.places new.hat.places c.loop-page.invariant.stay c.protect.ensures.stay;
      rest = c.protect.ensures.rest ∙ ap (λ (w : World g.row.D.Denot). record w { hat = new.hat }) c.loop-page.invariant.rest;
      modified = modifies-then (world_seen old) (world_seen cur) (world_seen new) c.loop-page.invariant.modified c.protect.ensures.modified;
      keeps = λ spaces fits.
          let before = c.loop-page.invariant.keeps spaces fits in
          keeps-then (world_seen old) (world_seen cur) (world_seen new) spaces fits before (c.protect.ensures.keeps spaces before.memory);
    }

pub returns-clause-none : goal.returns-clause-none
returns-clause-none g c = λ q low high. c.loop-page.invariant.none q low (omega (arith, high))
