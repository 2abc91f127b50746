use Rattle.std.proofs.Common.{◌≡◌, ◌∙◌, true, ap, sym, arith, rules, tests}
use Rattle.vm_report.specs.Trace.{entry_text}
use Rattle.trace_text.proofs.entry_lines.entry_of_line.Goals as goal

pub returns-then-not-are_same-clause-none : goal.returns-then-not-are_same-clause-none
returns-then-not-are_same-clause-none c = λ e h is.
    let t = c.in_ok-entry.ensures.told e h is in
    let same : c.in-Some.entry ≡ e = cc in
    let printed : c.as_slice.result.now ≡ entry_text c.in-Some.entry = search rules in
    let yes : c.are_same.result ≡ true = c.are_same.ensures.1 (printed ∙ (ap entry_text same ∙ sym is)) in
    first_of (cc, grind (arith, yes), search (rules, tests, yes))
