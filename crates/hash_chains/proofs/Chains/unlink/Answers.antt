use Rattle.std.proofs.Common.{◌≡◌, ◌<◌, Some, None, Option, ℕ, sym, ◌∙◌, subst, get_or, set, arith}
use Rattle.std.specs.Prelude.{IfSome, vec_len}
use Rattle.std.proofs.lemmas.List.{get_or_default}
use Rattle.hash_chains.specs.Order.{ChainsSeen, chain_at, without_place}
use Rattle.hash_chains.specs.Links.{AreSoundChains, before_in, heads_led, next_led}
use Rattle.hash_chains.proofs.LinkLemmas.{among-within, before-on, linked-out, linked-is, linked-own}
use Rattle.hash_chains.proofs.Chains.unlink.Goals.{After-lead}
use Rattle.hash_chains.proofs.Chains.unlink.Goals as goal

pub index-after-requires : goal.index-after-requires
index-after-requires c =
    let l = subst (λ (r : ChainsSeen). AreSoundChains c.self.inside.heads.items c.self.inside.next.items r.order) c.self.view_is c.self.invariant in
    let lt = among-within c.self.inside.next.items (get_or c.self.inside.heads.items c.args.chain None) (chain_at c.args.self.now.order c.args.chain) c.args.place (l.leads c.args.chain) c.requires in
    let k = c.self.inside.next.ok.0 in omega arith

pub lead-requires-clause-before : goal.lead-requires-clause-before
lead-requires-clause-before c = go c.before-before.result c.before-before.ensures
  where
    go : (o : Option ℕ) → o ≡ before_in None c.args.place (chain_at c.args.self.now.order c.args.chain) → IfSome o (λ p. p < vec_len c.self.inside.next)
    go None e = tt
    go (Some p) e =
        let l = subst (λ (r : ChainsSeen). AreSoundChains c.self.inside.heads.items c.self.inside.next.items r.order) c.self.view_is c.self.invariant in
        let lt = among-within c.self.inside.next.items (get_or c.self.inside.heads.items c.args.chain None) (chain_at c.args.self.now.order c.args.chain) p
        (l.leads c.args.chain) (before-on c.self.inside.heads.items c.self.inside.next.items c.args.self.now.order c.args.place c.args.chain l c.requires p (sym e)) in
        let k = c.self.inside.next.ok.0 in omega arith

linked : (c : After-lead) → AreSoundChains c.lead.new.heads.items c.lead.new.next.items
    (set c.args.self.now.order c.args.chain (without_place c.args.place (chain_at c.args.self.now.order c.args.chain)))
linked c = let l = subst (λ (r : ChainsSeen). AreSoundChains c.self.inside.heads.items c.self.inside.next.items r.order) c.self.view_is c.self.invariant in
    rw c.lead.ensures.heads (rw c.lead.ensures.next (rw c.before-before.ensures (
    subst (λ (o : Option ℕ). AreSoundChains (heads_led
    (before_in None c.args.place (chain_at c.args.self.now.order c.args.chain)) c.self.inside.heads.items c.args.chain o)
    (next_led (before_in None c.args.place (chain_at c.args.self.now.order c.args.chain)) c.self.inside.next.items o)
    (set c.args.self.now.order c.args.chain (without_place c.args.place (chain_at c.args.self.now.order c.args.chain))))
    (get_or_default c.self.inside.next.items c.args.place None c.index-after.result.now
    (among-within c.self.inside.next.items (get_or c.self.inside.heads.items c.args.chain None) (chain_at c.args.self.now.order c.args.chain) c.args.place
    (l.leads c.args.chain) c.requires) ∙ sym c.index-after.ensures)
    (linked-out c.self.inside.heads.items c.self.inside.next.items c.args.self.now.order c.args.place c.args.chain l c.requires))))

pub invariant_of-self : goal.invariant_of-self
invariant_of-self c = linked-own _ _ _ (linked (goal.at.invariant_of-self c).After-lead)

pub returns-clause-order : goal.returns-clause-order
returns-clause-order c = linked-is _ _ _ (linked (goal.at.returns-clause-order c).After-lead)

pub returns-clause-apart : goal.returns-clause-apart
returns-clause-apart c = (linked-own _ _ _ (linked (goal.at.returns-clause-apart c).After-lead)).apart
