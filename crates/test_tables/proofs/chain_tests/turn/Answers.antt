use Rattle.std.proofs.Common.{◌<◌, None, length, sym, ◌∙◌, arith}
use Rattle.std.proofs.lemmas.List.{get_or_default}
use Rattle.hash_chains.proofs.OwnerLaws.{owners-unlinked}
use Rattle.test_tables.proofs.chain_tests.turn.Goals as goal

pub returns-in-Some-clause-owners : goal.returns-in-Some-clause-owners
returns-in-Some-clause-owners g c = λ chain k.
    let lt : c.args.place < length c.args.owners.now.items = omega arith in
    rw c.unlink.ensures.order (owners-unlinked c.args.chains.now.order c.args.owners.now.items c.requires.owners c.args.place c.in-Some.owner lt
    (get_or_default c.args.owners.now.items c.args.place None c.index.result.now lt ∙ sym c.index.ensures ∙ c.in-Some.is) chain k)
