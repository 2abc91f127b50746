use Rattle.std.proofs.Common.{rules, ◌≡◌, [], None}
use Rattle.std.specs.Prelude.{replicate}
use Rattle.hash_chains.specs.Links.{AreSoundChains}
use Rattle.hash_chains.proofs.LinkLemmas.{linked-none, linked-is, linked-own}
use Rattle.hash_chains.proofs.Chains.new.Goals.{In_ok-filled-2}
use Rattle.hash_chains.proofs.Chains.new.Goals as goal

made : (c : In_ok-filled-2) → AreSoundChains c.in_ok-filled.field-0.items c.in_ok-filled-2.field-0.items (replicate c.args.chains [])
made c =
    let h : c.in_ok-filled.field-0.items ≡ replicate c.args.chains None = search rules in
    let n : c.in_ok-filled-2.field-0.items ≡ replicate c.args.places None = search rules in
    rw h (rw n (linked-none c.args.chains c.args.places))

pub invariant_of-result : goal.invariant_of-result
invariant_of-result c = linked-own c.in_ok-filled.field-0.items c.in_ok-filled-2.field-0.items _ (made (goal.at.invariant_of-result c).In_ok-filled-2)

pub returns-clause-order : goal.returns-clause-order
returns-clause-order c = linked-is c.in_ok-filled.field-0.items c.in_ok-filled-2.field-0.items _ (made (goal.at.returns-clause-order c).In_ok-filled-2)

pub returns-clause-apart : goal.returns-clause-apart
returns-clause-apart c = (linked-own c.in_ok-filled.field-0.items c.in_ok-filled-2.field-0.items _ (made (goal.at.returns-clause-apart c).In_ok-filled-2)).apart
