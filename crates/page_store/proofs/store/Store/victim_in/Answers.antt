use Rattle.std.proofs.Common.{arith}
use Rattle.page_store.proofs.store.Store.victim_in.Goals as goal

pub returns-clause-none : goal.returns-clause-none
returns-clause-none g c = λ e k a b v. c.loop-frame.invariant k a (let t = c.loop-frame-test.false in omega (arith, b, t)) v
