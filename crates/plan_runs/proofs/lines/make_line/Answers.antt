use Rattle.std.proofs.Common.{◌≡◌, ◌∙◌, ap, sym, subst}
use Rattle.volume_files.specs.vm_script.declared.plan.PlanAct.TheVariants as act
use Rattle.block_runs.specs.Lines.{LineTakesMemory}
use Rattle.block_runs.proofs.KernelCalls.{on_err}
use Rattle.block_runs.proofs.LineCalls.{names_file, plain_made, plain_may}
use Rattle.plan_runs.specs.Lines.{AreOfOne, alone_caller, alone_kernel}
use Rattle.plan_runs.proofs.Alone.{alone-is, alone-made, of-one-more}
use Rattle.plan_runs.proofs.lines.make_line.Goals as goal

-- A line that names no file
pub make_call-requires-clause-may : goal.make_call-requires-clause-may
make_call-requires-clause-may g c =
    let s = c.args.state.now in
    plain_may (alone_kernel s) (alone_caller s s.history) c.args.line.now c.call.result (c.in-Call.is ∙ ap act.Call (sym c.call.ensures)) c.requires.line (alone-is s s.history) c.requires.may

pub returns-in_err-make_call-in-Call-clause-alone : goal.returns-in_err-make_call-in-Call-clause-alone
returns-in_err-make_call-in-Call-clause-alone g c = subst AreOfOne (sym c.in_err-make_call-in-Call.ensures.err) c.requires.alone

pub returns-in_err-make_call-in-Call-clause-takes : goal.returns-in_err-make_call-in-Call-clause-takes
returns-in_err-make_call-in-Call-clause-takes g c =
    on_err c.from_residual.result (LineTakesMemory c.args.line.now.act) (subst LineTakesMemory (sym (c.in-Call.is ∙ ap act.Call (sym c.call.ensures))) c.in_err-make_call-in-Call.ensures.takes)

pub returns-in_err-make_call-in-Call-clause-err : goal.returns-in_err-make_call-in-Call-clause-err
returns-in_err-make_call-in-Call-clause-err g c = on_err c.from_residual.result (c.make_call.new.state.history ≡ c.args.state.now.history) c.in_err-make_call-in-Call.ensures.err

pub returns-in_ok-make_call-in-Call-clause-alone : goal.returns-in_ok-make_call-in-Call-clause-alone
returns-in_ok-make_call-in-Call-clause-alone g c =
    of-one-more c.args.state.now c.make_call.new.state c.call.result c.in_ok-make_call-in-Call.field-0 c.requires.alone c.in_ok-make_call-in-Call.ensures.made

pub returns-in_ok-make_call-in-Call-clause-made : goal.returns-in_ok-make_call-in-Call-clause-made
returns-in_ok-make_call-in-Call-clause-made g c =
    let s = c.args.state.now in
    let t = c.make_call.new.state in
    plain_made (alone_kernel s) (alone_caller s s.history) c.args.line.now c.call.result (c.in-Call.is ∙ ap act.Call (sym c.call.ensures)) c.requires.line (alone-is s s.history) c.requires.may
    (alone_caller s t.history) c.in_ok-make_call-in-Call.field-0 (alone-made s s t c.call.result c.in_ok-make_call-in-Call.field-0 c.in_ok-make_call-in-Call.ensures.made)

-- Another
pub make_named-requires-clause-named : goal.make_named-requires-clause-named
make_named-requires-clause-named g c = names_file c.args.line.now.act c.requires.line c.in_default.not-Call
