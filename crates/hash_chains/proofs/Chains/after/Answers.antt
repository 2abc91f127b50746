use Rattle.std.proofs.Common.{None, sym, ◌∙◌, subst, get_or, arith}
use Rattle.std.proofs.lemmas.List.{get_or_default}
use Rattle.hash_chains.specs.Order.{ChainsSeen, chain_at}
use Rattle.hash_chains.specs.Links.{AreSoundChains}
use Rattle.hash_chains.proofs.LinkLemmas.{after-is, among-within}
use Rattle.hash_chains.proofs.Chains.after.Goals as goal

pub index-requires : goal.index-requires
index-requires c =
    let l = subst (λ (r : ChainsSeen). AreSoundChains c.self.inside.heads.items c.self.inside.next.items r.order) c.self.view_is c.self.invariant in
    let lt = among-within c.self.inside.next.items (get_or c.self.inside.heads.items c.requires.0 None)
    (chain_at c.args.self.now.order c.requires.0) c.args.place (l.leads c.requires.0) c.requires.1 in
    let k = c.self.inside.next.ok.0 in omega arith

pub returns-clause-after : goal.returns-clause-after
returns-clause-after c = λ chain on.
    let l = subst (λ (r : ChainsSeen). AreSoundChains c.self.inside.heads.items c.self.inside.next.items r.order) c.self.view_is c.self.invariant in
    let lt = among-within c.self.inside.next.items (get_or c.self.inside.heads.items chain None) (chain_at c.args.self.now.order chain) c.args.place (l.leads chain) on in
    sym (get_or_default c.self.inside.next.items c.args.place None c.index.result.now lt ∙ sym c.index.ensures)
    ∙ after-is c.self.inside.next.items (get_or c.self.inside.heads.items chain None) (chain_at c.args.self.now.order chain) c.args.place (l.leads chain) on
