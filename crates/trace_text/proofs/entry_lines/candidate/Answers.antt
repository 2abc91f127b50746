use Rattle.std.proofs.Common.{◌≡◌, true, subst, arith, rules, tests}
use Rattle.trace_text.specs.EntryForm.{IsTracedEntry}
use Rattle.trace_text.proofs.EntriesAgain.{line_told}
use Rattle.trace_text.proofs.entry_lines.candidate.Goals as goal

pub returns-in_default-2-clause-told : goal.returns-in_default-2-clause-told
returns-in_default-2-clause-told c = λ e h is.
    let t = line_told c.args.line.now c.in-Some.body.now c.in_ok-entry.field-0 c.in-Some.ensures.some c.in_ok-entry.ensures e h is in
    cc

pub returns-then-not-may_tell-clause-told : goal.returns-then-not-may_tell-clause-told
returns-then-not-may_tell-clause-told c = λ e h is.
    let t = line_told c.args.line.now c.in-Some.body.now c.in_ok-entry.field-0 c.in-Some.ensures.some c.in_ok-entry.ensures e h is in
    let same : e ≡ c.in-Some-2.entry = cc in
    let told : IsTracedEntry c.in-Some-2.entry = subst IsTracedEntry same h in
    let yes : c.may_tell.result ≡ true = c.may_tell.ensures.1 told in
    first_of (cc, grind (arith, yes), search (rules, tests, yes))

pub returns-clause-told : goal.returns-clause-told
returns-clause-told c = λ e h is.
    let t = line_told c.args.line.now c.in-Some.body.now c.in_ok-entry.field-0 c.in-Some.ensures.some c.in_ok-entry.ensures e h is in
    cc
