use Rattle.std.proofs.Common.{◌≡◌, ℕ, Option, Some, None, List, Bool, refl, sym, ◌∙◌, ap, subst, get_or, false}
use Rattle.std.specs.Prelude.{◌==◌, option_map}
use Rattle.std.specs.List.{list_any}
use Rattle.std.proofs.lemmas.Bool.{and_right}
use Rattle.hash_chains.specs.Order.{chain_at}
use Rattle.hash_chains.proofs.WalkLaws.{walk-falls}
use Rattle.hat_layer.specs.declared.translation.Translation.{Translation}
use Rattle.hat_layer.specs.Pool.{frame_of, with_clear_bits, has_bit}
use Rattle.hat_layer.proofs.FrameLemmas.{Clears, clears-start, clears-step, reached, clear-step, bit-step, bit-gone, clear-places, clear-has}
use Rattle.hat_layer.proofs.table.clear_all.Goals.{In-Some, In_default}
use Rattle.hat_layer.proofs.table.clear_all.Goals as goal

pub loop-at-init : goal.loop-at-init
loop-at-init c = rw c.first-at.ensures.first (record {
  clears = clears-start c.args.cells.now.items c.args.by_frame.now.order c.args.frame c.requires.owners;
  rest = refl;
  bits_r = refl;
  bits_m = refl;
})

-- the translation that the walk is at
at : (c : In-Some) → Clears c.loop-at.cells.items (chain_at c.args.by_frame.now.order c.args.frame) c.args.frame (Some c.in-Some.place)
at c = subst (λ (a : Option ℕ). Clears c.loop-at.cells.items (chain_at c.args.by_frame.now.order c.args.frame) c.args.frame a) c.in-Some.is c.loop-at.invariant.clears

held : (c : In-Some) → (t : Translation) × (get_or c.loop-at.cells.items c.in-Some.place None ≡ Some t) × (t.frame ≡ c.args.frame)
held c = reached c.loop-at.cells.items (chain_at c.args.by_frame.now.order c.args.frame) c.args.frame c.in-Some.place (at c)

pub after-at-requires : goal.after-at-requires
after-at-requires c = (c.args.frame, (at (goal.at.after-at-requires c).In-Some).on)

pub loop-at-smaller : goal.loop-at-smaller
loop-at-smaller c =
    let s = at (goal.at.loop-at-smaller c).In-Some in
    rw (c.after-at.ensures.after c.args.frame s.on) (rw c.in-Some.is (walk-falls (chain_at c.args.by_frame.now.order c.args.frame) c.in-Some.place (c.first-at.ensures.apart.once c.args.frame) s.on))

pub loop-at-preserved : goal.loop-at-preserved
loop-at-preserved c =
    let i = c.loop-at.invariant in
    let s = at (goal.at.loop-at-preserved c).In-Some in
    let r = held (goal.at.loop-at-preserved c).In-Some in
    let e : get_or c.loop-at.cells.items c.in-Some.place None ≡ Some c.held_at-old.result = ap
    (λ (l : List (Option Translation)). get_or l c.in-Some.place None) (sym c.deref.ensures.value) ∙ c.held_at-old.ensures in
    let f : c.held_at-old.result.frame ≡ c.args.frame = (let z : Some r.0 ≡ Some c.held_at-old.result = sym r.1 ∙ e in
    let y : r.0 ≡ c.held_at-old.result = cc in ap (λ (t : Translation). t.frame) (sym y) ∙ r.2) in
    rw (c.after-at.ensures.after c.args.frame s.on) (rw c.with_clear_bits.ensures (record {
      clears = clears-step c.loop-at.cells.items (chain_at c.args.by_frame.now.order c.args.frame) c.args.frame c.in-Some.place c.held_at-old.result s (c.first-at.ensures.apart.once c.args.frame) e f;
      rest = clear-step c.loop-at.cells.items c.args.frame c.in-Some.place c.held_at-old.result e f ∙ i.rest;
      bits_r = bit-step (λ t. t.referenced) c.loop-at.cells.items c.args.frame c.in-Some.place c.held_at-old.result
          (Some (with_clear_bits c.held_at-old.result)) c.loop-at.referenced e f (and_right (c.held_at-old.result.frame == c.args.frame) false refl) ∙ i.bits_r;
      bits_m = bit-step (λ t. t.modified) c.loop-at.cells.items c.args.frame c.in-Some.place c.held_at-old.result
          (Some (with_clear_bits c.held_at-old.result)) c.loop-at.modified e f (and_right (c.held_at-old.result.frame == c.args.frame) false refl) ∙ i.bits_m;
    }))

-- where the walk has ended all are clear
clear : (c : In_default) → (k : ℕ) → frame_of (get_or c.loop-at.cells.items k None) ≡ Some c.args.frame
    → get_or c.loop-at.cells.items k None ≡ option_map with_clear_bits (get_or c.loop-at.cells.items k None)
clear c k e = (subst (λ (a : Option ℕ). Clears c.loop-at.cells.items (chain_at c.args.by_frame.now.order c.args.frame) c.args.frame a) c.in_default.is c.loop-at.invariant.clears).past k e refl

pub returns-clause-bits : goal.returns-clause-bits
returns-clause-bits c =
    let i = c.loop-at.invariant in
    let a = clear (goal.at.returns-clause-bits c).In_default in
    let r = sym (bit-gone (λ t. t.referenced) c.loop-at.cells.items c.args.frame c.loop-at.referenced (clear-has c.loop-at.cells.items c.args.frame a (λ t. t.referenced) (λ t. refl))) ∙ i.bits_r in
    let m = sym (bit-gone (λ t. t.modified) c.loop-at.cells.items c.args.frame c.loop-at.modified (clear-has c.loop-at.cells.items c.args.frame a (λ t. t.modified) (λ t. refl))) ∙ i.bits_m in
    ap (λ (b : Bool). (b, c.loop-at.modified)) r ∙ ap (λ (b : Bool). (list_any (has_bit (λ t. t.referenced) c.args.frame) c.args.cells.now.items, b)) m

pub returns-clause-places : goal.returns-clause-places
returns-clause-places c = sym (clear-places c.loop-at.cells.items c.args.frame (clear (goal.at.returns-clause-places c).In_default)) ∙ c.loop-at.invariant.rest
