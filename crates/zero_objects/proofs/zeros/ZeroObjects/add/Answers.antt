use Rattle.std.proofs.Common.{arith, sym, ap, length}
use Rattle.zero_objects.proofs.FreeNumbers.{free-within}
use Rattle.zero_objects.proofs.zeros.ZeroObjects.add.Goals as goal

pub index_mut-requires : goal.index_mut-requires
index_mut-requires c = let lt = free-within c.args.self.now c.in-Some.number (sym c.in-Some.ensures) in let e = c.self.view_is in omega (arith, lt, ap length e)
