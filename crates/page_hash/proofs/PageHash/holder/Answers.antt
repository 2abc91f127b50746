use Rattle.std.proofs.Common.{◌≡◌, ◌<◌, ℕ, Option, Some, None, List, length, sym, ◌∙◌, ap, subst, arith, true, false}
use Rattle.std.proofs.lemmas.List.{get_or_default}
use Rattle.hash_chains.specs.Order.{chain_at, is_among}
use Rattle.hash_chains.proofs.WalkLaws.{Hunts, hunt-start, hunt-step, hunt-end, walk-falls}
use Rattle.page_hash.specs.declared.PageName.{PageName}
use Rattle.page_hash.specs.Names.{name_at, is_name}
use Rattle.page_hash.specs.Index.{Finds}
use Rattle.page_hash.proofs.NameLaws.{is_name-true, is_name-same}
use Rattle.page_hash.proofs.IndexLemmas.{on-slot, frame-within}
use Rattle.page_hash.proofs.PageHash.holder.Goals.{In-Some}
use Rattle.page_hash.proofs.PageHash.holder.Goals as goal

pub loop-at-init : goal.loop-at-init
loop-at-init c = rw c.first-at.ensures.first (hunt-start (chain_at c.self.inside.chains.order c.slot_of_pair-slot.result) (λ k. is_name (name_at c.self.inside.names.items k) c.args.name))

-- the frame that the walk is at
at : (c : In-Some) → Hunts (chain_at c.self.inside.chains.order c.slot_of_pair-slot.result) (λ k. is_name (name_at c.self.inside.names.items k) c.args.name) (Some c.in-Some.frame)
at c = subst (λ (a : Option ℕ). Hunts (chain_at c.self.inside.chains.order c.slot_of_pair-slot.result)
    (λ k. is_name (name_at c.self.inside.names.items k) c.args.name) a) c.in-Some.is c.loop-at.invariant

within : (c : In-Some) → c.in-Some.frame < length c.self.inside.names.items
within c = frame-within c.self.inside.names.items c.self.inside.slots c.self.inside.chains c.self.invariant c.args.name c.in-Some.frame c.slot_of_pair-slot.result (at c).on

pub index-requires : goal.index-requires
index-requires c = let w = within (goal.at.index-requires c).In-Some in let k = c.self.inside.names.ok.0 in omega arith

pub after-at-requires : goal.after-at-requires
after-at-requires c = (c.slot_of_pair-slot.result, (at (goal.at.after-at-requires c).In-Some).on)

pub loop-at-smaller : goal.loop-at-smaller
loop-at-smaller c =
    let s = at (goal.at.loop-at-smaller c).In-Some in
    rw (c.after-at.ensures.after c.slot_of_pair-slot.result s.on) (rw c.in-Some.is
    (walk-falls (chain_at c.self.inside.chains.order c.slot_of_pair-slot.result) c.in-Some.frame (c.first-at.ensures.apart.once c.slot_of_pair-slot.result) s.on))

pub loop-at-preserved : goal.loop-at-preserved
loop-at-preserved c =
    let s = at (goal.at.loop-at-preserved c).In-Some in
    let e = get_or_default c.self.inside.names.items c.in-Some.frame None c.index.result.now (within (goal.at.loop-at-preserved c).In-Some) ∙ sym c.index.ensures in
    rw (c.after-at.ensures.after c.slot_of_pair-slot.result s.on) (hunt-step (chain_at c.self.inside.chains.order c.slot_of_pair-slot.result)
    (λ k. is_name (name_at c.self.inside.names.items k) c.args.name) c.in-Some.frame (c.first-at.ensures.apart.once c.slot_of_pair-slot.result) s
    (ap (λ (o : Option PageName). is_name o c.args.name) e ∙ sym c.is_name.ensures ∙ c.if-is_name.false))

pub returns-then-is_name-clause-found : goal.returns-then-is_name-clause-found
returns-then-is_name-clause-found c =
    let e = get_or_default c.self.inside.names.items c.in-Some.frame None c.index.result.now (within (goal.at.returns-then-is_name-clause-found c).In-Some) ∙ sym c.index.ensures in
    ap (λ (l : List (Option PageName)). name_at l c.in-Some.frame) (sym c.self.view_is) ∙ e ∙ is_name-true c.index.result.now c.args.name (sym c.is_name.ensures ∙ c.if-is_name.true)

pub returns-clause-found : goal.returns-clause-found
returns-clause-found c = subst (λ (l : List (Option PageName)). Finds l c.args.name None) c.self.view_is (λ k held.
    let h = subst (λ (a : Option ℕ). Hunts (chain_at c.self.inside.chains.order c.slot_of_pair-slot.result)
    (λ k. is_name (name_at c.self.inside.names.items k) c.args.name) a) c.in_default.is c.loop-at.invariant in
    let on : is_among k (chain_at c.self.inside.chains.order c.slot_of_pair-slot.result) ≡ true = rw c.slot_of_pair-slot.ensures.slot
    (on-slot c.self.inside.names.items c.self.inside.slots c.self.inside.chains c.self.invariant c.args.name k held) in
    let z : true ≡ false = sym (ap (λ (o : Option PageName). is_name o c.args.name) held ∙ is_name-same c.args.name)
    ∙ hunt-end (chain_at c.self.inside.chains.order c.slot_of_pair-slot.result) (λ k. is_name (name_at c.self.inside.names.items k) c.args.name) h k (λ t. on) in cc)
