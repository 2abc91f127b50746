use Rattle.std.proofs.Common.{sym, ◌∙◌}
use Rattle.vm_core.proofs.MarksKept.{push-begun, push-none}
use Rattle.vm_core.proofs.state.VmState.keep_push.Goals as goal

-- a push of a file's page, and any other transfer
pub returns-in-Some : goal.returns-in-Some
returns-in-Some g c =
    push-begun _ c.args.self.now c.self.view_is c.begin.new.self c.length-entries.result c.args.seat c.length-entries.ensures c.args.flight.now _ (sym c.file_push.ensures ∙ c.in-Some.is) c.begin.ensures

pub returns-in_default : goal.returns-in_default
returns-in_default g c = (push-none c.args.self.now c.args.self.now (λ i. c.args.self.now) c.args.seat c.args.flight.now (sym c.file_push.ensures ∙ c.in_default.is)).0
