use Rattle.std.proofs.Common.{Some, None, Option, ℕ, ◌∷◌, sym, ◌∙◌, ap, subst, set, arith}
use Rattle.std.proofs.lemmas.List.{get_or_default}
use Rattle.hash_chains.specs.Order.{ChainsSeen, chain_at}
use Rattle.hash_chains.specs.Links.{AreSoundChains}
use Rattle.hash_chains.proofs.LinkLemmas.{linked-in, linked-is, linked-own}
use Rattle.hash_chains.proofs.Chains.link.Goals.{After-index-after}
use Rattle.hash_chains.proofs.Chains.link.Goals as goal

linked : (c : After-index-after) → AreSoundChains (set c.self.inside.heads.items c.args.chain (Some c.args.place))
    (set c.self.inside.next.items c.args.place c.index-after.result.now) (set c.args.self.now.order c.args.chain (c.args.place ∷ chain_at c.args.self.now.order c.args.chain))
linked c =
    let l = subst (λ (r : ChainsSeen). AreSoundChains c.self.inside.heads.items c.self.inside.next.items r.order) c.self.view_is c.self.invariant in
    let n = ap (λ (r : ChainsSeen). r.size) c.self.view_is in
    let lt = c.requires.place in
    let in_ = c.requires.chain in
    let m = l.lengths in
    subst (λ (o : Option ℕ). AreSoundChains (set c.self.inside.heads.items c.args.chain (Some c.args.place)) (set c.self.inside.next.items c.args.place o)
    (set c.args.self.now.order c.args.chain (c.args.place ∷ chain_at c.args.self.now.order c.args.chain)))
    (get_or_default c.self.inside.heads.items c.args.chain None c.index-after.result.now (omega arith) ∙ sym c.index-after.ensures)
    (linked-in c.self.inside.heads.items c.self.inside.next.items c.args.self.now.order c.args.place c.args.chain l in_ (omega arith) c.requires.off)

pub invariant_of-self : goal.invariant_of-self
invariant_of-self c = linked-own _ _ _ (linked (goal.at.invariant_of-self c).After-index-after)

pub returns-clause-order : goal.returns-clause-order
returns-clause-order c = linked-is _ _ _ (linked (goal.at.returns-clause-order c).After-index-after)

pub returns-clause-apart : goal.returns-clause-apart
returns-clause-apart c = (linked-own _ _ _ (linked (goal.at.returns-clause-apart c).After-index-after)).apart
