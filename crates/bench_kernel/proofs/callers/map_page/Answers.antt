use Rattle.std.proofs.Common.{◌≡◌, ◌<◌, arith}
use Rattle.bench_kernel.proofs.callers.map_page.Goals as goal

pub returns : goal.returns
returns c = let a : c.union.result.0 ≡ 3 = c.union.ensures tt in (tt, (omega arith, omega arith, omega (arith, a), tt, omega arith))
