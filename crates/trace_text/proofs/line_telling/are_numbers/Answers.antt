use Rattle.std.proofs.Common.{◌<◌, true, length, take, get_or, refl, subst, arith, rules, tests}
use Rattle.std.specs.Prelude.{ℕ, List, All}
use Rattle.std.proofs.lemmas.List.{take_all}
use Rattle.std.proofs.lemmas.List.Elements.{All-more}
use Rattle.trace_text.specs.TraceLines.{AreTwoNumbers}
use Rattle.trace_text.proofs.line_telling.are_numbers.Goals as goal

pub loop-pair-preserved : goal.loop-pair-preserved
loop-pair-preserved c =
    let xs = c.args.pairs.now in
    let i = c.loop-pair.pair-index in
    let here : AreTwoNumbers (get_or xs i (0, 0)) = search (rules, tests) in
    All-more AreTwoNumbers xs i (0, 0) (omega arith) c.loop-pair.invariant here

pub returns : goal.returns
returns c =
    let xs = c.args.pairs.now in
    let whole = take_all c.loop-pair.pair-index xs (omega arith) in
    (λ yes. subst (λ (ys : List (ℕ × ℕ)). All AreTwoNumbers ys) whole c.loop-pair.invariant, λ all. refl)
