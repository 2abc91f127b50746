use Rattle.std.proofs.Common.{arith}
use Rattle.test_threads.proofs.Working.{may-bear}
use Rattle.test_threads.proofs.worker.Worker.may_fork.Goals as goal

pub returns-then-is_free : goal.returns-then-is_free
returns-then-is_free g c formed =
    let w = c.args.self.now in
    let child = c.args.child.now in (
      c.if-self.false,
      may-bear c.args.kernel.now w.caller w.process w.parent w.left w.is_alive w.has_forked w.last c.requires.works.0.1 c.if-not-self.false (omega (arith, c.if-self-eq0.false)) child.caller child.process child.parent
          child.left child.is_alive child.has_forked child.last c.requires.works.1.1 c.if-child-self.false c.if-self.false (c.is_well_formed.ensures.0 formed) (c.is_free.ensures.0 c.if-is_free.true),
    )
