use Rattle.std.proofs.Common.{rules, ◌≡◌, None, ◌∙◌, ap, length, arith}
use Rattle.std.specs.Prelude.{replicate}
use Rattle.hash_chains.proofs.OwnerLaws.{owners-none}
use Rattle.test_tables.proofs.chain_tests.turn_all.Goals as goal

pub loop-place-init : goal.loop-place-init
loop-place-init g c =
    let none : c.in_ok-owners.owners.items ≡ replicate 4 None = search rules in
    let e = c.in_ok-chains.ensures in
    record {
      fits = rw e.order (rw none (owners-none 2 4));
      size = omega (arith, e.size, ap length none);
      count = ap length e.order;
    }
