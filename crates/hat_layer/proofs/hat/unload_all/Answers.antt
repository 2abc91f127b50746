use Rattle.std.proofs.Common.{◌<◌, ℕ, Option, None, List, sym, ◌∙◌, ap, subst, length, refl, Bool}
use Rattle.std.specs.Prelude.{◌||◌}
use Rattle.std.specs.List.{list_any, count_by}
use Rattle.std.proofs.Math.ListN.{length-set}
use Rattle.hat_layer.specs.declared.translation.Translation.{Translation}
use Rattle.hat_layer.specs.Pool.{leads, drop_frame, has_bit}
use Rattle.hat_layer.specs.Table.{LeadsToFrame}
use Rattle.hat_layer.proofs.FrameLemmas.{drop-step, bit-step, bit-gone, none-has, gone-places, fewer}
use Rattle.hat_layer.proofs.hat.unload_all.Goals as goal

pub loop-at-smaller : goal.loop-at-smaller
loop-at-smaller c =
    let l = subst (λ (a : Option (ℕ × Translation)). LeadsToFrame c.loop-at.table.places c.args.frame a) c.in-Some.is c.loop-at.invariant.leads_to in
    subst (λ (p : List (Option Translation)). count_by (leads c.args.frame) p < count_by (leads c.args.frame) c.loop-at.table.places)
    (sym c.release.ensures.places) (fewer c.loop-at.table.places c.args.frame c.in-Some.place c.in-Some.old l.0 l.1)

pub loop-at-preserved : goal.loop-at-preserved
loop-at-preserved c =
    let i = c.loop-at.invariant in
    let l = subst (λ (a : Option (ℕ × Translation)). LeadsToFrame c.loop-at.table.places c.args.frame a) c.in-Some.is i.leads_to in
    let p = c.release.ensures.places in
    record {
      fits = c.release.ensures.fits;
      frames = c.release.ensures.frames ∙ i.frames;
      size = ap length p ∙ length-set c.loop-at.table.places c.in-Some.place None ∙ i.size;
      distinct = c.release.ensures.distinct;
      leads_to = c.first-at-in-Some.ensures.leads;
      rest = ap (λ (p : List (Option Translation)). drop_frame c.args.frame p) p ∙ drop-step c.loop-at.table.places c.args.frame c.in-Some.place c.in-Some.old l.0 l.1 ∙ i.rest;
      bits_r = ap (λ (p : List (Option Translation)). (c.loop-at.referenced || c.in-Some.old.referenced) || list_any
          (has_bit (λ t. t.referenced) c.args.frame) p) p ∙ bit-step
          (λ t. t.referenced) c.loop-at.table.places c.args.frame c.in-Some.place c.in-Some.old None c.loop-at.referenced l.0 l.1 refl ∙ i.bits_r;
      bits_m = ap (λ (p : List (Option Translation)). (c.loop-at.modified || c.in-Some.old.modified) || list_any (has_bit (λ t. t.modified) c.args.frame) p) p
          ∙ bit-step (λ t. t.modified) c.loop-at.table.places c.args.frame c.in-Some.place c.in-Some.old None c.loop-at.modified l.0 l.1 refl ∙ i.bits_m;
    }

pub returns-clause-bits : goal.returns-clause-bits
returns-clause-bits c =
    let i = c.loop-at.invariant in
    let l = subst (λ (a : Option (ℕ × Translation)). LeadsToFrame c.loop-at.table.places c.args.frame a) c.in_default.is i.leads_to in
    let r = sym (bit-gone (λ t. t.referenced) c.loop-at.table.places c.args.frame c.loop-at.referenced (none-has (λ t. t.referenced) c.loop-at.table.places c.args.frame l)) ∙ i.bits_r in
    let m = sym (bit-gone (λ t. t.modified) c.loop-at.table.places c.args.frame c.loop-at.modified (none-has (λ t. t.modified) c.loop-at.table.places c.args.frame l)) ∙ i.bits_m in
    ap (λ (b : Bool). (b, c.loop-at.modified)) r ∙ ap (λ (b : Bool). (list_any (has_bit (λ t. t.referenced) c.args.frame) c.args.table.now.places, b)) m

pub returns-clause-places : goal.returns-clause-places
returns-clause-places c =
    let l = subst (λ (a : Option (ℕ × Translation)). LeadsToFrame c.loop-at.table.places c.args.frame a) c.in_default.is c.loop-at.invariant.leads_to in
    sym (gone-places c.loop-at.table.places c.args.frame l) ∙ c.loop-at.invariant.rest
