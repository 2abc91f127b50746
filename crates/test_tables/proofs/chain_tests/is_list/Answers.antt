use Rattle.std.proofs.Common.{None, sym, ◌∙◌, arith}
use Rattle.std.proofs.lemmas.List.{get_or_default}
use Rattle.hash_chains.proofs.OwnerLaws.{owned-on}
use Rattle.test_tables.proofs.chain_tests.is_list.Goals as goal

pub after-at-requires : goal.after-at-requires
after-at-requires g c = (
  c.in-Some._owner,
  owned-on c.args.chains.now.order c.args.owners.now.items c.requires.owners c.in-Some._owner _
      (get_or_default c.args.owners.now.items _ None c.index.result.now (omega arith) ∙ sym c.index.ensures ∙ c.in-Some.is),
)
