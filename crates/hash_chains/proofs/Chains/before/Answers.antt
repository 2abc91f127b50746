use Rattle.std.proofs.Common.{Some, Option, ℕ, subst}
use Rattle.hash_chains.specs.Order.{chain_at}
use Rattle.hash_chains.proofs.LinkLemmas.{in-range}
use Rattle.hash_chains.proofs.WalkLaws.{Seeks, seek-start, seek-step, seek-found, walk-falls}
use Rattle.hash_chains.proofs.Chains.before.Goals.{In-Some}
use Rattle.hash_chains.proofs.Chains.before.Goals as goal

pub first-at-requires : goal.first-at-requires
first-at-requires c = in-range c.args.self.now.order c.args.chain c.args.place c.requires

pub loop-at-init : goal.loop-at-init
loop-at-init c = rw c.first-at.ensures.first (seek-start (chain_at c.args.self.now.order c.args.chain) c.args.place c.requires)

-- the place that the walk is at
at : (c : In-Some) → Seeks (chain_at c.args.self.now.order c.args.chain) c.args.place c.loop-at.before (Some c.in-Some.other)
at c = subst (λ (a : Option ℕ). Seeks (chain_at c.args.self.now.order c.args.chain) c.args.place c.loop-at.before a) c.in-Some.is c.loop-at.invariant

pub returns-then-other-place : goal.returns-then-other-place
returns-then-other-place c = seek-found (chain_at c.args.self.now.order c.args.chain) c.args.place c.loop-at.before
    (c.first-at.ensures.apart.once c.args.chain) (subst
    (λ (p : ℕ). Seeks (chain_at c.args.self.now.order c.args.chain) c.args.place c.loop-at.before (Some p)) c.if-other-place.true (at (goal.at.returns-then-other-place c).In-Some))

pub after-at-requires : goal.after-at-requires
after-at-requires c = (c.args.chain, (at (goal.at.after-at-requires c).In-Some).on)

pub loop-at-smaller : goal.loop-at-smaller
loop-at-smaller c =
    let s = at (goal.at.loop-at-smaller c).In-Some in
    rw (c.after-at.ensures.after c.args.chain s.on) (rw c.in-Some.is (walk-falls (chain_at c.args.self.now.order c.args.chain) c.in-Some.other (c.first-at.ensures.apart.once c.args.chain) s.on))

pub loop-at-preserved : goal.loop-at-preserved
loop-at-preserved c =
    let s = at (goal.at.loop-at-preserved c).In-Some in
    rw (c.after-at.ensures.after c.args.chain s.on) (seek-step (chain_at c.args.self.now.order c.args.chain) c.args.place c.in-Some.other c.loop-at.before
    (c.first-at.ensures.apart.once c.args.chain) c.if-other-place.false s)

pub returns : goal.returns
returns c = let s = subst (λ (a : Option ℕ). Seeks (chain_at c.args.self.now.order c.args.chain) c.args.place c.loop-at.before a) c.in_default.is c.loop-at.invariant in absurd (let z = s.has in cc)
