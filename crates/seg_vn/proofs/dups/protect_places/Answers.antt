use Rattle.std.proofs.Common.{ℕ, ◌+◌, sym, ap, ◌∙◌, inl, inr, subst, arith}
use Rattle.std.proofs.lemmas.Bool.{cases_eq}
use Rattle.seg_ops.specs.vm_world.World.{world_seen, slot_in}
use Rattle.seg_ops.specs.vm_world.declared.world.World.{World}
use Rattle.seg_ops.specs.Writers.{HasNoWriter}
use Rattle.seg_ops.proofs.Composed.{keeps-then}
use Rattle.seg_ops.proofs.Modified.{modifies-then}
use Rattle.seg_vn.proofs.Writers.{no-writer-then, writers-then}
use Rattle.seg_vn.proofs.dups.protect_places.Goals as goal

pub loop-place-preserved : goal.loop-place-preserved
loop-place-preserved g c =
    let old = c.args.world.now in
    let cur = c.loop-place.world in
    let new = c.protect_place.new.world in
    let maps = ap (λ (w : World g.row.D.Denot). w.maps) c.loop-place.invariant.rest in
    record {
      none = λ i slot lt is. elim (cases_eq i c.loop-place.place) [
        | inl here ↦ subst (λ (k : ℕ). HasNoWriter new.hat.places c.args.space (c.args.first + k)) (sym here)
            (c.protect_place.ensures.none slot (ap (λ (ms : _). slot_in ms c.args.map c.loop-place.place) maps ∙ ap (slot_in old.maps c.args.map) (sym here) ∙ is))
        | inr apart ↦ no-writer-then cur.hat.places new.hat.places c.args.space (c.args.first + i) (c.loop-place.invariant.none i slot (omega (arith, lt, apart)) is) c.protect_place.ensures.stay
      ];
      stay = writers-then old.hat.places cur.hat.places new.hat.places c.loop-place.invariant.stay c.protect_place.ensures.stay;
      rest = c.protect_place.ensures.rest ∙ ap (λ (w : World g.row.D.Denot). record w { hat = new.hat }) c.loop-place.invariant.rest;
      modified = modifies-then (world_seen old) (world_seen cur) (world_seen new) c.loop-place.invariant.modified c.protect_place.ensures.modified;
      keeps = λ spaces fits.
          let before = c.loop-place.invariant.keeps spaces fits in
          keeps-then (world_seen old) (world_seen cur) (world_seen new) spaces fits before (c.protect_place.ensures.keeps spaces before.memory);
    }
