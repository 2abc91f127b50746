use Rattle.std.proofs.Common.{arith}
use Rattle.test_threads.proofs.Working.{may-turn}
use Rattle.test_threads.proofs.worker.Worker.next_call.Goals as goal

pub returns : goal.returns
returns g c =
    let w = c.args.self.now in (
      c.call_in_hand-next.ensures.call,
      may-turn c.args.kernel.now w.caller w.process w.parent w.left w.is_alive w.has_forked w.last c.requires.works.1 c.if-not-self.false (omega (arith, c.if-self-eq0.false)) c.call_in_hand-next.result c.call_in_hand-next.ensures.call
          (c.is_well_formed.ensures.0 c.if-not-is_well_formed.false) c.call_in_hand-next.ensures.hand,
    )
