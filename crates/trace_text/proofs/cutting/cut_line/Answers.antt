use Rattle.std.proofs.Common.{◌≡◌, ℕ, suc, ◌<◌, ◌-◌, ◌∷◌, length, take, drop, ap₂, ◌∙◌, arith}
use Rattle.trace_text.specs.TraceLines.{fed_lines}
use Rattle.trace_text.proofs.FirstBad.{cut_fed}
use Rattle.trace_text.proofs.cutting.cut_line.Goals as goal

pub returns-clause-line : goal.returns-clause-line
returns-clause-line c = λ some.
    let text = c.args.text.now in
    let n = c.first_length.result - 1 in
    let is : suc n ≡ c.first_length.result = omega arith in
    let fed = cut_fed n text (omega arith) (λ (k : ℕ) (less : k < n). c.first_length.ensures.plain k (omega (arith, less))) (λ (less : suc n < length text). c.first_length.ensures.fed (omega (arith, less))) in
    let front : take (suc n) text ≡ c.split_at.result.0.now = cc in
    let back : drop (suc n) text ≡ c.split_at.result.1.now = cc in
    fed ∙ ap₂ (λ x y. x ∷ fed_lines y) front back
