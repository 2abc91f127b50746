use Rattle.std.proofs.Common.{ap}
use Rattle.vm_kernel.specs.Callers.{CallerSeen}
use Rattle.test_threads.proofs.Working.{works-seen}
use Rattle.test_threads.proofs.worker.Worker.wait_for.Goals as goal

pub returns-clause-works : goal.returns-clause-works
returns-clause-works g c =
    let w = c.args.self.now in
    let more = c.wait_for.ensures.parent in (
      (c.wait_for.ensures.callers.1, works-seen c.args.kernel.now w.caller c.wait_for.new.parent w.process w.parent w.left w.is_alive w.has_forked w.last c.requires.works.0.1 more),
      ap (λ (x : CallerSeen). x.seat.number) c.wait_for.ensures.parent.rest,
    )
