use Rattle.std.proofs.Common.{◌≡◌, length}
use Rattle.std.specs.Prelude.{vec_len}
use Rattle.hash_chains.specs.Order.{HaveOwners}
use Rattle.test_tables.proofs.chain_tests.turn_all.Given as goal

abbrev pub invariant-loop-place : goal.invariant-loop-place
invariant-loop-place g l = record {
  fits : HaveOwners l.chains.order l.owners.items;
  size : l.chains.size ≡ vec_len l.owners;
  count : length l.chains.order ≡ 2;
}
