use Rattle.std.proofs.Common.{◌∙◌, sym, arith}
use Rattle.std.proofs.lemmas.Option.{slice_get_within}
use Rattle.vm_report.proofs.RunEntries.{empty_is, next-left, none-left, run-within}
use Rattle.vm_report.proofs.cursors.onward.Goals as goal

pub entries_of_run-requires : goal.entries_of_run-requires
entries_of_run-requires c = run-within _ c.args.runs.now c.loop-run.at.next c.in-Some.run' c.requires.within (sym c.in-Some.ensures.run)

pub loop-run-smaller : goal.loop-run-smaller
loop-run-smaller c =
    let lt = slice_get_within c.args.runs.now c.loop-run.at.next c.in-Some.run' (sym c.in-Some.ensures.run) in
    omega (arith, lt)

pub loop-run-preserved : goal.loop-run-preserved
loop-run-preserved c = record {
  left =
      next-left c.args.history.now c.args.runs.now c.loop-run.at.next c.in-Some.run' c.loop-run.at.front c.entries_of_run.result
      (empty_is c.loop-run.at.front c.is_empty.result c.loop-run-test.true c.is_empty.ensures) (sym c.in-Some.ensures.run)
      c.entries_of_run.ensures ∙ c.loop-run.invariant.left;
}

pub returns-in_default-clause-whole : goal.returns-in_default-clause-whole
returns-in_default-clause-whole c = λ none. none-left c.args.history.now c.args.runs.now c.loop-run.at.next c.loop-run.at.front none (sym c.get.ensures.run ∙ c.in_default.is)
