use Rattle.test_threads.proofs.Working.{working-new}
use Rattle.test_threads.proofs.worker.Worker.new.Goals as goal

pub returns-clause-works : goal.returns-clause-works
returns-clause-works g c =
    working-new c.args.kernel.now c.args.caller c.requires.caller.0 c.args.process c.args.parent c.args.entries c.requires.caller.1 c.requires.parent c.requires.room
