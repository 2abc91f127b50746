use Rattle.vm_core.specs.flat_model.Births.{is_done}
use Rattle.vm_core.specs.vm_types.declared.call.Call.TheVariants.{Fork}
use Rattle.test_threads.proofs.Working.{works-forked, works-lacking, works-child, sees-number}
use Rattle.test_threads.proofs.worker.Worker.fork.Goals as goal

pub fork-requires-clause-may : goal.fork-requires-clause-may
fork-requires-clause-may g c = (c.may_fork.ensures c.if-not-may_fork.false).1

pub returns-clause-works : goal.returns-clause-works
returns-clause-works g c =
    let w = c.args.self.now in
    let may = c.may_fork.ensures c.if-not-may_fork.false in (
      (
        c.fork.ensures.callers.0,
        works-forked c.args.kernel.now w.caller c.fork.new.parent w.process w.parent w.left w.is_alive w.has_forked w.last c.requires.works.0.1 c.fork.ensures.goes c.saturating_sub-self.result c.args.child.now.caller.process c.in-Ok.reply c.is_done-is_born.result
            c.saturating_sub-self.ensures c.is_done-is_born.ensures may.1 may.0 c.in-Ok.ensures.done,
      ),
      c.fork.ensures.goes.number,
    )

pub returns-clause-child : goal.returns-clause-child
returns-clause-child g c =
    let w = c.args.child.now in (
      (
        c.fork.ensures.callers.1,
        works-child c.args.kernel.now w.caller c.fork.new.child c.args.self.now.caller c.fork.new.parent w.process w.parent w.left w.is_alive w.has_forked w.last c.in-Ok.reply c.is_done-is_born.result c.requires.works.1.1
            c.is_done-is_born.ensures c.in-Ok.ensures.done c.fork.ensures.goes c.in-Ok.ensures.child,
      ),
      sees-number (is_done c.in-Ok.reply) c.fork.new.parent w.caller c.fork.new.child c.in-Ok.ensures.child,
    )

pub returns-in_default-clause-works : goal.returns-in_default-clause-works
returns-in_default-clause-works g c =
    let w = c.args.self.now in (
      (
        c.fork.ensures.callers.0,
        works-lacking c.args.kernel.now w.caller c.fork.new.parent w.process w.parent w.left w.is_alive w.has_forked w.last c.requires.works.0.1 c.fork.ensures.goes (Fork c.args.child.now.caller.process) w.last c.in_default.ensures.err,
      ),
      c.fork.ensures.goes.number,
    )
