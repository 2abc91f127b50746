use Rattle.std.proofs.Common.{◌≡◌, ◌∙◌, true, ap, sym, arith, rules, tests}
use Rattle.trace_text.specs.OpeningSeen.{opening_line_seen}
use Rattle.trace_text.specs.TraceLines.{TraceLine, trace_line_text}
use Rattle.trace_text.proofs.opening_lines.opening_of_line.Goals as goal

pub returns-then-not-are_same-clause-none : goal.returns-then-not-are_same-clause-none
returns-then-not-are_same-clause-none c = λ l h is same.
    let t = c.in_ok-read.ensures.told l h is same in
    let read = rw c.in-Some.is at t in
    let one : opening_line_seen c.in-Some.read ≡ l = cc in
    let printed : c.as_slice.result.now ≡ trace_line_text (opening_line_seen c.in-Some.read) = search rules in
    let yes : c.are_same.result ≡ true = c.are_same.ensures.1 (printed ∙ (ap trace_line_text one ∙ sym same)) in
    first_of (cc, grind (arith, yes), search (rules, tests, yes))
