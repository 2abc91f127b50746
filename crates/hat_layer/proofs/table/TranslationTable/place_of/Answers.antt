use Rattle.std.proofs.Common.{◌≡◌, ◌<◌, ℕ, Option, Some, None, length, sym, ◌∙◌, ap, subst, get_or, true}
use Rattle.std.proofs.lemmas.List.{get_or_default}
use Rattle.hash_chains.specs.Order.{chain_at}
use Rattle.hash_chains.proofs.WalkLaws.{Hunts, hunt-start, hunt-step, walk-falls}
use Rattle.hat_layer.specs.declared.translation.Translation.{Translation}
use Rattle.hat_layer.specs.Pool.{holds}
use Rattle.hat_layer.specs.Table.{Rows, FindsPlace}
use Rattle.hat_layer.proofs.TableLemmas.{slot-within}
use Rattle.hat_layer.proofs.table.TranslationTable.place_of.Goals.{In-Some, After-holds}
use Rattle.hat_layer.proofs.table.TranslationTable.place_of.Goals as goal

pub loop-at-init : goal.loop-at-init
loop-at-init c = rw c.first-at.ensures.first (hunt-start (chain_at c.self.inside.by_page.order c.slot_of_pair-slot.result)
    (λ k. holds c.args.space c.args.page (get_or c.self.inside.cells.items k None)))

-- the place that the walk is at
at : (c : In-Some) → Hunts (chain_at c.self.inside.by_page.order c.slot_of_pair-slot.result) (λ k. holds c.args.space c.args.page (get_or c.self.inside.cells.items k None)) (Some c.in-Some.place)
at c = subst (λ (a : Option ℕ). Hunts (chain_at c.self.inside.by_page.order c.slot_of_pair-slot.result)
    (λ k. holds c.args.space c.args.page (get_or c.self.inside.cells.items k None)) a) c.in-Some.is c.loop-at.invariant

within : (c : In-Some) → c.in-Some.place < length c.self.inside.cells.items
within c = let i = c.self.inside in slot-within i.cells.items i.slots i.by_page i.by_frame c.slot_of_pair-slot.result c.in-Some.place c.self.invariant (at c).on

pub after-at-requires : goal.after-at-requires
after-at-requires c = (c.slot_of_pair-slot.result, (at (goal.at.after-at-requires c).In-Some).on)

pub loop-at-smaller : goal.loop-at-smaller
loop-at-smaller c =
    let s = at (goal.at.loop-at-smaller c).In-Some in
    rw (c.after-at.ensures.after c.slot_of_pair-slot.result s.on) (rw c.in-Some.is
    (walk-falls (chain_at c.self.inside.by_page.order c.slot_of_pair-slot.result) c.in-Some.place (c.first-at.ensures.apart.once c.slot_of_pair-slot.result) s.on))

pub loop-at-preserved : goal.loop-at-preserved
loop-at-preserved c =
    let s = at (goal.at.loop-at-preserved c).In-Some in
    let e = get_or_default c.self.inside.cells.items c.in-Some.place None c.index.result.now (within (goal.at.loop-at-preserved c).In-Some) ∙ sym c.index.ensures in
    rw (c.after-at.ensures.after c.slot_of_pair-slot.result s.on) (hunt-step (chain_at c.self.inside.by_page.order c.slot_of_pair-slot.result)
    (λ k. holds c.args.space c.args.page (get_or c.self.inside.cells.items k None)) c.in-Some.place (c.first-at.ensures.apart.once c.slot_of_pair-slot.result) s
    (ap (λ (o : Option Translation). holds c.args.space c.args.page o) e ∙ sym c.holds.ensures ∙ c.if-holds.false))

pub returns-then-holds-clause-found : goal.returns-then-holds-clause-found
returns-then-holds-clause-found c =
    let i = c.self.inside in
    let e = get_or_default i.cells.items c.in-Some.place None c.index.result.now (within (goal.at.returns-then-holds-clause-found c).In-Some) ∙ sym c.index.ensures in
    let h : holds c.args.space c.args.page (get_or i.cells.items c.in-Some.place None) ≡ true = ap
    (λ (o : Option Translation). holds c.args.space c.args.page o) e ∙ sym c.holds.ensures ∙ c.if-holds.true in
    subst (λ (r : Rows). FindsPlace r.places c.args.space c.args.page (Some c.in-Some.place)) c.self.view_is
    (h, λ k g. c.self.invariant.distinct k c.in-Some.place c.args.space c.args.page g h)
