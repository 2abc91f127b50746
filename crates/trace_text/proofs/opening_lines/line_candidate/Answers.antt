use Rattle.std.proofs.Common.{◌≡◌, true, subst, arith, rules, tests, option_map}
use Rattle.trace_text.specs.OpeningSeen.{opening_line_seen}
use Rattle.trace_text.specs.TraceLines.{TraceLine, IsTraceLine}
use Rattle.trace_text.proofs.OpeningAgain.{no_opening_unfed, opening_line_told}
use Rattle.trace_text.proofs.opening_lines.line_candidate.Goals as goal

pub returns-in_default-clause-told : goal.returns-in_default-clause-told
returns-in_default-clause-told c = λ l h is same.
    let unfed = rw c.in_default.is at c.body_of.ensures.none in
    absurd (no_opening_unfed c.args.line.now unfed l is same)

pub returns-in_default-2-clause-told : goal.returns-in_default-2-clause-told
returns-in_default-2-clause-told c = λ l h is same.
    let t = opening_line_told c.args.line.now c.in-Some.body.now (option_map opening_line_seen c.in_ok-read.field-0) c.in-Some.ensures.some
    c.in_ok-read.ensures l h is same in
    rw c.in_default-2.is at t

pub returns-then-not-may_tell_line-clause-told : goal.returns-then-not-may_tell_line-clause-told
returns-then-not-may_tell_line-clause-told c = λ l h is same.
    let t = opening_line_told c.args.line.now c.in-Some.body.now (option_map opening_line_seen c.in_ok-read.field-0) c.in-Some.ensures.some
    c.in_ok-read.ensures l h is same in
    let read = rw c.in-Some-2.is at t in
    let one : l ≡ opening_line_seen c.in-Some-2.read = cc in
    let told : IsTraceLine (opening_line_seen c.in-Some-2.read) = subst IsTraceLine one h in
    let yes : c.may_tell_line.result ≡ true = c.may_tell_line.ensures.1 told in
    first_of (cc, grind (arith, yes), search (rules, tests, yes))

pub returns-clause-told : goal.returns-clause-told
returns-clause-told c = λ l h is same.
    let t = opening_line_told c.args.line.now c.in-Some.body.now (option_map opening_line_seen c.in_ok-read.field-0) c.in-Some.ensures.some
    c.in_ok-read.ensures l h is same in
    rw c.in-Some-2.is at t
