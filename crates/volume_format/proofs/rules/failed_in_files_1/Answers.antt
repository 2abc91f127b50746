use Rattle.std.proofs.Common.{◌≡◌, sym, ◌∙◌, arith, Some, None}
use Rattle.volume_format.specs.Layout.{file_count}
use Rattle.volume_format.specs.Rules.{first_failed, entry_tests_1, end_tests_1, file_tests_1}
use Rattle.volume_format.proofs.TestLemmas.{rest-some-then, rest-none-then, failed-rest-end-then}
use Rattle.volume_format.proofs.rules.failed_in_files_1.Goals as goal

pub returns-in-Some : goal.returns-in-Some
unfolding file_tests_1
returns-in-Some c =
    let block = c.args.block.now in
    let here : first_failed (entry_tests_1 block c.args.blocks c.loop-i.i) ≡ Some c.in-Some.rule = sym c.failed_in_entry_1.ensures ∙ c.in-Some.is in
    sym (c.loop-i.invariant ∙ rest-some-then (entry_tests_1 block c.args.blocks) c.loop-i.i (file_count block) c.in-Some.rule (end_tests_1 block) (omega arith) here)

pub loop-i-preserved : goal.loop-i-preserved
loop-i-preserved c =
    let block = c.args.block.now in
    let here : first_failed (entry_tests_1 block c.args.blocks c.loop-i.i) ≡ None = sym c.failed_in_entry_1.ensures ∙ c.in_default.is in
    c.loop-i.invariant ∙ rest-none-then (entry_tests_1 block c.args.blocks) c.loop-i.i (file_count block) (end_tests_1 block) (omega arith) here

pub returns : goal.returns
unfolding file_tests_1
returns c =
    let block = c.args.block.now in
    c.failed_at_end_1.ensures
    ∙ sym (c.loop-i.invariant ∙ failed-rest-end-then (entry_tests_1 block c.args.blocks) c.loop-i.i (file_count block) (end_tests_1 block) (omega arith))
