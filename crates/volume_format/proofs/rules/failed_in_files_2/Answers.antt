use Rattle.std.proofs.Common.{◌≡◌, ◌<◌, ◌+◌, ◌-◌, ℕ, Some, None, sym, ◌∙◌, arith, subst}
use Rattle.volume_format.specs.Layout.{file_count, first_extent}
use Rattle.volume_format.specs.Rules.{first_failed, entry_tests_2, end_tests_2, file_tests_2}
use Rattle.volume_format.proofs.PassedLemmas.{extents_before-more, entry_2-passed}
use Rattle.volume_format.proofs.TestLemmas.{rest-some-then, rest-none-then, failed-rest-end-then}
use Rattle.volume_format.proofs.rules.failed_in_files_2.Goals as goal

pub returns-in-Some : goal.returns-in-Some
unfolding file_tests_2
returns-in-Some c =
    let block = c.args.block.now in
    let here : first_failed (entry_tests_2 block c.args.blocks c.loop-i.i) ≡ Some c.in-Some.rule = sym c.failed_in_entry_2.ensures ∙ c.in-Some.is in
    sym (c.loop-i.invariant.rest ∙ rest-some-then (entry_tests_2 block c.args.blocks) c.loop-i.i (file_count block) c.in-Some.rule (end_tests_2 block) (omega arith) here)

pub overflow_add-before : goal.overflow_add-before
overflow_add-before c =
    let e = entry_2-passed c.args.block.now c.args.blocks c.loop-i.i (sym c.failed_in_entry_2.ensures ∙ c.in_default.is) in
    omega (arith, e.next.next, e.next.within, c.loop-i.invariant.before)

pub loop-i-preserved : goal.loop-i-preserved
loop-i-preserved c =
    let block = c.args.block.now in
    let i = c.loop-i.invariant in
    let here : first_failed (entry_tests_2 block c.args.blocks c.loop-i.i) ≡ None = sym c.failed_in_entry_2.ensures ∙ c.in_default.is in
    let e = entry_2-passed block c.args.blocks c.loop-i.i here in
    let same : c.loop-i.i ≡ c.loop-i.i + 1 - 1 = omega arith in
    let more = extents_before-more block c.loop-i.i in
    record {
      before = omega (arith, more, i.before);
      few = omega (arith, e.next.next, e.next.within, i.before);
      earlier = λ _. subst (λ (k : ℕ). first_extent block k < 252) same (omega (arith, e.next.some, e.next.within));
      rest = i.rest ∙ rest-none-then (entry_tests_2 block c.args.blocks) c.loop-i.i (file_count block) (end_tests_2 block) (omega arith) here;
    }

pub returns : goal.returns
unfolding file_tests_2
returns c =
    let block = c.args.block.now in
    c.failed_at_end_2.ensures
    ∙ sym (c.loop-i.invariant.rest ∙ failed-rest-end-then (entry_tests_2 block c.args.blocks) c.loop-i.i (file_count block) (end_tests_2 block) (omega arith))
