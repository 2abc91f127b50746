use Rattle.std.proofs.Common.{◌∙◌, sym, ap, subst, rules}
use Rattle.std.specs.Prelude.{map}
use Rattle.vm_script.specs.Reading.{IsReadAs}
use Rattle.vm_script.specs.Statements.{statement}
use Rattle.vm_script.proofs.ByLine.{reads_exact, fails_line, gives_ok}
use Rattle.vm_script.proofs.parsing.exact_line.Goals as goal

pub returns-in_err-statement-clause-err : goal.returns-in_err-statement-clause-err
returns-in_err-statement-clause-err c =
    let plain = c.split_line-split.result.plain in
    let fs = map (λ f. f.now) c.as_slice.result.now in
    let says_it = subst (λ s. IsReadAs (λ s. s) c.statement_of.result (statement s plain fs)) c.spot_of-spot.ensures c.statement_of.ensures in
    let fails = fails_line c.args.line c.args.growing.now c.args.text.now plain fs c.in_err-statement.field-0.0 c.statement_of.result c.requires.some c.split_line-split.ensures.plain
    (ap (map (λ f. f.now)) c.as_slice.ensures.value ∙ c.split_line-split.ensures.fields) says_it c.in_err-statement.was in
    search (rules, fails)

pub returns-clause-ok : goal.returns-clause-ok
returns-clause-ok c =
    let g = c.args.growing.now in
    let plain = c.split_line-split.result.plain in
    let fs = map (λ f. f.now) c.as_slice.result.now in
    let said = c.in_ok-statement.statement in
    let says_it = ap (λ s. statement s plain fs) (sym c.spot_of-spot.ensures) ∙ gives_ok c.statement_of.result said _ c.statement_of.ensures c.in_ok-statement.was in
    reads_exact c.args.line g c.add.new.self c.args.text.now c.split_line-split.result.rest.now plain fs said c.requires.some c.split_line-split.ensures.plain
    (ap (map (λ f. f.now)) c.as_slice.ensures.value ∙ c.split_line-split.ensures.fields) says_it c.in_ok-add.ensures.new c.split_line-split.ensures.rest
