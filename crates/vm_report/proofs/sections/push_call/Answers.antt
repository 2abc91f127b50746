use Rattle.std.proofs.Common.{◌∙◌, ◌++◌, List, ap, drop, length, sym, subst, arith}
use Rattle.std.specs.Prelude.{All}
use Rattle.std.proofs.lemmas.List.{length-append, length-take-le}
use Rattle.std.proofs.lemmas.List.Elements.{All-take}
use Rattle.vm_script.specs.vm_types.declared.call.Entry.{Entry}
use Rattle.vm_script.specs.vm_types.WellFormed.{IsWellFormed}
use Rattle.vm_report.specs.Report.{call_length, line_text}
use Rattle.vm_report.specs.Runs.{entries_left, runs_seen}
use Rattle.vm_report.proofs.RunEntries.{call-in-front}
use Rattle.vm_report.proofs.sections.push_call.Goals as goal

pub push_line-requires-clause-few : goal.push_line-requires-clause-few
push_line-requires-clause-few c =
    let size = length-append c.args.at.front (runs_seen c.args.history.now (drop c.args.at.next c.args.runs.now)) in
    let inside = c.in-Some.ensures.inside in
    let own = ap (λ (es : List Entry). length es) c.split_at-own.ensures.front ∙ length-take-le c.in-Some.count c.args.at.front inside in
    let few = c.requires.few in
    omega (arith, size, own, inside, few)

pub push_line-requires-clause-well_formed : goal.push_line-requires-clause-well_formed
push_line-requires-clause-well_formed c =
    let left = entries_left c.args.history.now c.args.runs.now c.args.at in
    let in_front = call-in-front c.args.at.front (runs_seen c.args.history.now (drop c.args.at.next c.args.runs.now)) c.in-Some.count c.in-Some.ensures.inside c.in-Some.ensures.made in
    subst (All (λ (e : Entry). IsWellFormed e.call)) (sym (c.split_at-own.ensures.front ∙ in_front.0)) (All-take (λ (e : Entry). IsWellFormed e.call) (call_length left) left c.requires.well_formed)

pub returns-in-Some-clause-text : goal.returns-in-Some-clause-text
returns-in-Some-clause-text c =
    let in_front = call-in-front c.args.at.front (runs_seen c.args.history.now (drop c.args.at.next c.args.runs.now)) c.in-Some.count c.in-Some.ensures.inside c.in-Some.ensures.made in
    c.in_ok-push_line.ensures ∙ ap (λ (es : List Entry). c.args.out.now.items ++ line_text c.args.line.now es) (c.split_at-own.ensures.front ∙ in_front.0)

pub returns-in-Some-clause-left : goal.returns-in-Some-clause-left
returns-in-Some-clause-left c =
    let in_front = call-in-front c.args.at.front (runs_seen c.args.history.now (drop c.args.at.next c.args.runs.now)) c.in-Some.count c.in-Some.ensures.inside c.in-Some.ensures.made in
    c.pass.ensures.left ∙ in_front.1
