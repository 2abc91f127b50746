use Rattle.std.proofs.Common.{Some}
use Rattle.test_threads.proofs.Working.{works-done, works-lacking}
use Rattle.test_threads.proofs.worker.Worker.call.Goals as goal

pub returns : goal.returns
returns g c =
    let w = c.args.self.now in
    let may = c.in-Some.ensures in
    record {
      works = (
        (c.call.ensures.caller, works-done c.args.kernel.now w.caller c.call.new.caller w.process w.parent w.left w.is_alive w.has_forked w.last c.requires.works.1 c.call.ensures.goes c.saturating_sub-self.result c.in-Some.next c.in-Ok.reply c.saturating_sub-self.ensures may.1 may.0 c.in-Ok.ensures.done),
        c.call.ensures.goes.number,
      );
    }

pub returns-in_default-call : goal.returns-in_default-call
returns-in_default-call g c =
    let w = c.args.self.now in
    record {
      works = (
        (c.call.ensures.caller, works-lacking c.args.kernel.now w.caller c.call.new.caller w.process w.parent w.left w.is_alive w.has_forked w.last c.requires.works.1 c.call.ensures.goes c.in-Some.next (Some c.in-Some.next) c.in_default-call.ensures.err),
        c.call.ensures.goes.number,
      );
    }
