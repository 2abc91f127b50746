use Rattle.std.proofs.Common.{Some, subst}
use Rattle.vm_kernel.specs.Turns.{IsTurn}
use Rattle.test_threads.proofs.Working.{works-done, works-again, works-lacking}
use Rattle.test_threads.proofs.worker.Worker.turn.Goals as goal

pub returns-in-Done : goal.returns-in-Done
returns-in-Done g c =
    let w = c.args.self.now in
    let may = c.in-Some.ensures in
    let turn = subst (IsTurn w.caller c.in-Some.next c.turn.new.caller) c.in-Done.is c.in-Ok.ensures.turn in
    record {
      works = (
        (c.turn.ensures.caller, works-done c.args.kernel.now w.caller c.turn.new.caller w.process w.parent w.left w.is_alive w.has_forked w.last c.requires.works.1 c.turn.ensures.goes c.saturating_sub-self.result c.in-Some.next c.in-Done.reply c.saturating_sub-self.ensures may.1 may.0 turn),
        c.turn.ensures.goes.number,
      );
    }

pub returns-in-Again : goal.returns-in-Again
returns-in-Again g c =
    let w = c.args.self.now in
    let turn = subst (IsTurn w.caller c.in-Some.next c.turn.new.caller) c.in-Again.is c.in-Ok.ensures.turn in
    record { works = ((c.turn.ensures.caller, works-again c.args.kernel.now w.caller c.turn.new.caller w.process w.parent w.left w.is_alive w.has_forked w.last c.requires.works.1 c.turn.ensures.goes c.in-Some.next c.in-Again.why c.in-Some.ensures.0 turn), c.turn.ensures.goes.number) }

pub returns-in_default-turn : goal.returns-in_default-turn
returns-in_default-turn g c =
    let w = c.args.self.now in
    record {
      works = (
        (c.turn.ensures.caller, works-lacking c.args.kernel.now w.caller c.turn.new.caller w.process w.parent w.left w.is_alive w.has_forked w.last c.requires.works.1 c.turn.ensures.goes c.in-Some.next (Some c.in-Some.next) c.in_default-turn.ensures.err),
        c.turn.ensures.goes.number,
      );
    }
