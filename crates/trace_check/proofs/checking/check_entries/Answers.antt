use Rattle.std.proofs.Common.{◌≡◌, ◌+◌, ◌-◌, ◌∙◌, suc, true, false, sym, ℕ, List, [], ◌∷◌, ◌++◌, length, arith, rules, tests}
use Rattle.std.proofs.lemmas.Bool.{eqb-true, eqb-false}
use Rattle.flat_model.specs.Flat.{Flat}
use Rattle.flat_model.specs.vm_types.declared.call.Entry.{Entry}
use Rattle.trace_check.specs.Judging.{HasJudged}
use Rattle.trace_check.proofs.Checked.{checking_none, checking_more, checking_stops, checking_long, checking_all, entry_room}
use Rattle.trace_check.proofs.checking.check_entries.Goals as goal

pub loop-to_come-init : goal.loop-to_come-init
loop-to_come-init c = record {
  room = c.requires.short;
  count = omega (arith, c.requires.unseen);
  checks = λ text t read none judged. checking_none text c.args.unread.now t c.args.entries c.args.lines c.args.judge read none judged;
}

pub loop-to_come-preserved : goal.loop-to_come-preserved
loop-to_come-preserved c =
    let i = c.loop-to_come.invariant in
    let left = c.loop-to_come.left.now in
    let own = c.cut_line.result.0.now in
    let rest = c.cut_line.result.1.now in
    let many = c.loop-to_come.to_come in
    let taken = c.in_ok-is_entry.ensures.yes (first_of (cc, search (rules, tests))) in
    let same : many ≡ suc (many - 1) = omega (arith, c.loop-to_come-test.true) in
    let size = entry_room left own rest taken.entry c.cut_line.ensures.text taken.text in
    record {
      room = omega (arith, i.room, size);
      count = omega (arith, i.count, c.judge_line.ensures.count);
      checks = λ text t read none judged.
          checking_more text left own rest t many (many - 1) c.loop-to_come.line taken.entry c.loop-to_come.judge c.judge_line.new.judge
          (i.checks text t read none judged) same taken.may c.cut_line.ensures.text taken.text taken.judged;
    }

pub returns-then-not-is_entry : goal.returns-then-not-is_entry
returns-then-not-is_entry c = λ text t read none judged.
    let many = c.loop-to_come.to_come in
    let same : many ≡ suc (many - 1) = omega (arith, c.loop-to_come-test.true) in
    let no_entry = c.in_ok-is_entry.ensures.no (first_of (cc, search (rules, tests))) in
    checking_stops text c.loop-to_come.left.now c.cut_line.result.0.now c.cut_line.result.1.now t many (many - 1) c.loop-to_come.line c.loop-to_come.judge
    (c.loop-to_come.invariant.checks text t read none judged) same c.cut_line.ensures.line no_entry

pub returns-then-not-is_empty : goal.returns-then-not-is_empty
returns-then-not-is_empty c = λ text t read none judged.
    let h = c.loop-to_come.invariant.checks text t read none judged in
    let not : c.is_empty.result ≡ false = first_of (search rules, cc) in
    let apart = eqb-false (length c.loop-to_come.left.now) 0 (sym c.is_empty.ensures ∙ not) in
    checking_long text c.loop-to_come.left.now t c.loop-to_come.to_come c.loop-to_come.line c.loop-to_come.judge h (omega (arith, c.loop-to_come-test.false))
    (omega (arith, apart))

pub returns : goal.returns
returns c = λ text t read none judged.
    let h = c.loop-to_come.invariant.checks text t read none judged in
    let all : c.is_empty.result ≡ true = first_of (search rules, cc) in
    checking_all text c.loop-to_come.left.now t c.loop-to_come.to_come c.loop-to_come.line c.loop-to_come.judge c.verdict.result h (omega (arith, c.loop-to_come-test.false))
    (eqb-true (length c.loop-to_come.left.now) 0 (sym c.is_empty.ensures ∙ all)) c.verdict.ensures
