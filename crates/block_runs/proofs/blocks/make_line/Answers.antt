use Rattle.std.proofs.Common.{◌∙◌, [], ap, sym, subst}
use Rattle.vm_script.specs.declared.plan.PlanAct.TheVariants as act
use Rattle.block_runs.specs.Callers.{SeesMore}
use Rattle.block_runs.specs.Lines.{LineTakesMemory}
use Rattle.block_runs.proofs.KernelCalls.{call_made, call_lacked, on_err}
use Rattle.block_runs.proofs.LineCalls.{names_file, plain_made, plain_may}
use Rattle.block_runs.proofs.blocks.make_line.Goals as goal

-- A line that names no file
pub call-requires-in-Call-clause-may : goal.call-requires-in-Call-clause-may
call-requires-in-Call-clause-may g c = plain_may (g.K.Calls.kernel c.args.kernel.now) c.args.caller.now c.args.line.now c.call.result (c.in-Call.is ∙ ap act.Call (sym c.call.ensures)) c.requires.line c.requires.caller c.requires.may

pub returns-in_err-call-in-Call-clause-caller : goal.returns-in_err-call-in-Call-clause-caller
returns-in_err-call-in-Call-clause-caller g c = (call_lacked (g.K.Calls.kernel c.args.kernel.now) c.args.caller.now c.call-in-Call.new.caller c.call.result c.requires.caller c.in_err-call-in-Call.ensures.caller c.in_err-call-in-Call.ensures.goes c.in_err-call-in-Call.ensures.err).1

pub returns-in_err-call-in-Call-clause-takes : goal.returns-in_err-call-in-Call-clause-takes
returns-in_err-call-in-Call-clause-takes g c =
    on_err c.from_residual.result (LineTakesMemory c.args.line.now.act) (subst LineTakesMemory (sym (c.in-Call.is ∙ ap act.Call (sym c.call.ensures))) c.in_err-call-in-Call.ensures.err.takes)

pub returns-in_err-call-in-Call-clause-err : goal.returns-in_err-call-in-Call-clause-err
returns-in_err-call-in-Call-clause-err g c =
    on_err c.from_residual.result (SeesMore c.args.caller.now c.call-in-Call.new.caller [])
    (call_lacked (g.K.Calls.kernel c.args.kernel.now) c.args.caller.now c.call-in-Call.new.caller c.call.result c.requires.caller c.in_err-call-in-Call.ensures.caller c.in_err-call-in-Call.ensures.goes c.in_err-call-in-Call.ensures.err).0

pub returns-in_ok-call-in-Call-clause-caller : goal.returns-in_ok-call-in-Call-clause-caller
returns-in_ok-call-in-Call-clause-caller g c = (call_made (g.K.Calls.kernel c.args.kernel.now) c.args.caller.now c.call-in-Call.new.caller c.call.result c.in_ok-call-in-Call.field-0 c.requires.caller c.in_ok-call-in-Call.ensures.caller c.in_ok-call-in-Call.ensures.goes c.in_ok-call-in-Call.ensures.done).1

pub returns-in_ok-call-in-Call-clause-made : goal.returns-in_ok-call-in-Call-clause-made
returns-in_ok-call-in-Call-clause-made g c =
    let made = (call_made (g.K.Calls.kernel c.args.kernel.now) c.args.caller.now c.call-in-Call.new.caller c.call.result c.in_ok-call-in-Call.field-0 c.requires.caller c.in_ok-call-in-Call.ensures.caller c.in_ok-call-in-Call.ensures.goes c.in_ok-call-in-Call.ensures.done).0 in
    plain_made (g.K.Calls.kernel c.args.kernel.now) c.args.caller.now c.args.line.now c.call.result (c.in-Call.is ∙ ap act.Call (sym c.call.ensures)) c.requires.line c.requires.caller c.requires.may c.call-in-Call.new.caller c.in_ok-call-in-Call.field-0 made

-- One that names a file
pub make_named-requires-clause-named : goal.make_named-requires-clause-named
make_named-requires-clause-named g c = names_file c.args.line.now.act c.requires.line c.in_default.not-Call
