use Rattle.std.proofs.Common.{None, arith}
use Rattle.std.proofs.lemmas.List.{get_or_past}
use Rattle.test_tables.proofs.zero_tests.remove.Goals as goal

pub remove-requires : goal.remove-requires
remove-requires c =
    let m = c.map.ensures in
    let s = c.if-is_some.true in
    record { there = grind (arith, m, s, get_or_past c.args.zeros.now c.args.number None) }
