use Rattle.std.proofs.Common.{◌≡◌, ◌∙◌, [], ap, inr, sym, subst}
use Rattle.volume_files.specs.flat_model.Told.{SpelledLine}
use Rattle.vm_core.specs.Calls.{TakesMemory}
use Rattle.volume_files.specs.vm_types.declared.call.Call.{Call}
use Rattle.volume_files.specs.vm_script.declared.plan.PlanAct.TheVariants as act
use Rattle.block_runs.specs.Lines.{LineTakesMemory}
use Rattle.block_runs.proofs.LineCalls.{OneCall, err_kept, line_made, line_may, ok_made, one_call, one_cut, write_sized}
use Rattle.plan_runs.specs.Lines.{alone_caller, alone_kernel}
use Rattle.plan_runs.proofs.lines.make_named.Given.{Over}
use Rattle.plan_runs.proofs.lines.make_named.Goals as goal
use Rattle.plan_runs.proofs.lines.make_named.Goals.{After-call, After-cut_write-first}

-- One that names a file, with its call
spelled : (g : Over) (c : After-call g) → c.args.line.now.act ≡ act.Named c.in-Named.name c.call.result
spelled g c = c.in-Named.is ∙ ap (λ (x : Call). act.Named c.in-Named.name x) (sym c.call.ensures)

named : (g : Over) (c : After-call g) → OneCall c.args.line.now.act (record { call = c.call.result; bytes = [] })
named g c = one_call c.args.line.now.act c.call.result (inr (c.in-Named.name, spelled g c)) c.requires.line c.requires.may.fit

pub make_parts-requires-clause-may : goal.make_parts-requires-clause-may
make_parts-requires-clause-may g c =
    let s = c.args.state.now in
    line_may (alone_kernel s) (alone_caller s s.history) c.args.line.now (record { call = c.call.result; bytes = [] }) (named g (goal.at.make_parts-requires-clause-may g c).After-call) c.requires.may

pub returns-in-Named-clause-made : goal.returns-in-Named-clause-made
returns-in-Named-clause-made g c =
    let s = c.args.state.now in
    ok_made _ _ c.make_parts.result
    (line_made (alone_kernel s) (alone_caller s s.history) c.args.line.now (record { call = c.call.result; bytes = [] }) (named g (goal.at.returns-in-Named-clause-made g c).After-call)
    (alone_caller s c.make_parts.new.state.history))
    c.make_parts.ensures.made

pub returns-in-Named-clause-takes : goal.returns-in-Named-clause-takes
returns-in-Named-clause-takes g c =
    err_kept _ _ c.make_parts.result (subst LineTakesMemory (sym (spelled g (goal.at.returns-in-Named-clause-takes g c).After-call))) c.make_parts.ensures.takes

-- A write
pub cut_write-first-requires-clause-some : goal.cut_write-first-requires-clause-some
cut_write-first-requires-clause-some g c =
    let w = c.in-Write in
    (write_sized c.args.line.now.act w.name w.file w.offset w.bytes c.bytes.result.now w.is c.requires.may.fit c.bytes.ensures).0

pub cut_write-first-requires-clause-number : goal.cut_write-first-requires-clause-number
cut_write-first-requires-clause-number g c =
    let w = c.in-Write in
    (write_sized c.args.line.now.act w.name w.file w.offset w.bytes c.bytes.result.now w.is c.requires.may.fit c.bytes.ensures).1

abbrev written : (g : Over) (c : After-cut_write-first g) → SpelledLine
written g c = record { call = c.cut_write-first.result.0; bytes = c.cut_write-first.result.1.now }

cut : (g : Over) (c : After-cut_write-first g) → OneCall c.args.line.now.act (written g c)
cut g c =
    let w = c.in-Write in
    one_cut c.args.line.now.act w.name w.file w.offset w.bytes c.bytes.result.now c.cut_write-first.result.0 c.cut_write-first.result.1.now w.is c.requires.may.fit c.bytes.ensures
    c.cut_write-first.ensures.first c.cut_write-first.ensures.behind

pub make_parts-requires-in-Write-clause-may : goal.make_parts-requires-in-Write-clause-may
make_parts-requires-in-Write-clause-may g c =
    let at = (goal.at.make_parts-requires-in-Write-clause-may g c).After-cut_write-first in
    let s = c.args.state.now in
    line_may (alone_kernel s) (alone_caller s s.history) c.args.line.now (written g at) (cut g at) c.requires.may

pub returns-in-Write-clause-made : goal.returns-in-Write-clause-made
returns-in-Write-clause-made g c =
    let at = (goal.at.returns-in-Write-clause-made g c).After-cut_write-first in
    let s = c.args.state.now in
    ok_made _ _ c.make_parts-in-Write.result
    (line_made (alone_kernel s) (alone_caller s s.history) c.args.line.now (written g at) (cut g at) (alone_caller s c.make_parts-in-Write.new.state.history)) c.make_parts-in-Write.ensures.made

pub returns-in-Write-clause-takes : goal.returns-in-Write-clause-takes
returns-in-Write-clause-takes g c =
    err_kept _ _ c.make_parts-in-Write.result (λ takes. absurd (subst TakesMemory c.cut_write-first.ensures.first takes)) c.make_parts-in-Write.ensures.takes
