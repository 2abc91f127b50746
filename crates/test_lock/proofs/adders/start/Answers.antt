use Rattle.std.proofs.Common.{◌≡◌, ap, arith}
use Rattle.test_lock.specs.Tally.{total, entries}
use Rattle.test_lock.proofs.Tallies.{out_none}
use Rattle.test_lock.proofs.adders.start.Goals as goal

pub start-requires-clause-fits : goal.start-requires-clause-fits
start-requires-clause-fits c =
    let none = out_none c.args.seats in
    let sum : c.new.result.sum ≡ 0 = ap (λ t. t.sum) c.new.ensures in
    let list : total (entries c.new.result) ≡ 0 = ap (λ t. total (entries t)) c.new.ensures in
    omega (arith, none, sum, list)
