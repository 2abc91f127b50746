use Rattle.std.proofs.Common.{sym, arith}
use Rattle.std.proofs.lemmas.List.{length-take-le}
use Rattle.test_tables.proofs.core_tests.Frames.is_whole.Goals as goal

pub slice_bounds-are_all-end : goal.slice_bounds-are_all-end
slice_bounds-are_all-end c = sym (length-take-le 4096 c.in-Some.all.now (omega (arith, c.in-Some.ensures.size, c.args.self.now.three)))
