use Rattle.std.proofs.Common.{sym, ◌∙◌}
use Rattle.vm_core.proofs.MarksKept.{push-ended, push-failed, push-none}
use Rattle.vm_core.proofs.state.VmState.mark_end.Goals as goal

-- no push of a file's page; one that failed; one that went well
pub returns-in_default : goal.returns-in_default
returns-in_default g c = (push-none c.args.self.now c.args.self.now (λ i. c.args.self.now) c.args.seat c.args.flight.now (sym c.file_push.ensures ∙ c.in_default.is)).1

pub returns-then-has_failed : goal.returns-then-has_failed
returns-then-has_failed g c =
    push-failed _ c.args.self.now c.self.view_is c.fail.new.self c.length-entries.result c.args.seat c.length-entries.ensures c.args.flight.now _ (sym c.file_push.ensures ∙ c.in-Some.is) c.counts-disk.result.0 c.counts-disk.result.1 c.counts-disk.result.2
    c.counts-disk.ensures.number c.counts-disk.ensures.before c.counts-disk.ensures.after (c.has_failed.ensures.0 c.if-has_failed.true) c.fail.ensures

pub returns-else-has_failed : goal.returns-else-has_failed
returns-else-has_failed g c =
    push-ended _ c.args.self.now c.self.view_is c.end.new.self c.args.seat c.args.flight.now _ (sym c.file_push.ensures ∙ c.in-Some.is) c.counts-disk.result.0 c.counts-disk.ensures.number (λ bad. absurd (let made = c.has_failed.ensures.1 bad in cc)) c.requires c.end.ensures
