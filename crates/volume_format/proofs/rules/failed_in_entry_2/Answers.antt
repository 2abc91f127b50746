use Rattle.std.proofs.Common.{◌∷◌, ◌++◌, ℕ, List, sym, ◌∙◌}
use Rattle.std.specs.List.{flat_map, range_with_len}
use Rattle.volume_format.specs.Layout.{first_extent, extents_number}
use Rattle.volume_format.specs.Rules.{Test, name_tests, extents_test, extent_tests, last_tests_2, entry_tests_2}
use Rattle.volume_format.proofs.TestLemmas.{failed-append-none, failed-append-some, failed-test-no, failed-test-yes}
use Rattle.volume_format.proofs.rules.failed_in_entry_2.Goals as goal

-- The tests of the extents of an entry, and all of its tests past its name's and mode's.
abbrev of-extents : List ℕ → ℕ → ℕ → List Test
of-extents block blocks i = flat_map (extent_tests block blocks i) (range_with_len (first_extent block i) (extents_number block i))

abbrev past-name : List ℕ → ℕ → ℕ → List Test
past-name block blocks i = extents_test block i ∷ (of-extents block blocks i ++ last_tests_2 block i)

pub returns-in-Some : goal.returns-in-Some
unfolding entry_tests_2
returns-in-Some c =
    let block = c.args.block.now in
    sym (failed-append-some (name_tests block c.args.i) (past-name block c.args.blocks c.args.i) c.in-Some.rule (sym c.failed_in_name.ensures ∙ c.in-Some.is))

pub returns-then-not-has_next_extents : goal.returns-then-not-has_next_extents
unfolding entry_tests_2
returns-then-not-has_next_extents c =
    let block = c.args.block.now in
    let i = c.args.i in
    sym (failed-append-none (name_tests block i) (past-name block c.args.blocks i) (sym c.failed_in_name.ensures ∙ c.in_default.is)
    ∙ failed-test-no 15 (extents_test block i).holds (of-extents block c.args.blocks i ++ last_tests_2 block i) (sym c.has_next_extents.ensures ∙ c.if-not-has_next_extents.true))

pub returns-in-Some-failed_in_extents : goal.returns-in-Some-failed_in_extents
unfolding entry_tests_2
returns-in-Some-failed_in_extents c =
    let block = c.args.block.now in
    let i = c.args.i in
    sym (failed-append-none (name_tests block i) (past-name block c.args.blocks i) (sym c.failed_in_name.ensures ∙ c.in_default.is)
    ∙ failed-test-yes 15 (extents_test block i).holds (of-extents block c.args.blocks i ++ last_tests_2 block i) (sym c.has_next_extents.ensures ∙ c.if-not-has_next_extents.false)
    ∙ failed-append-some (of-extents block c.args.blocks i) (last_tests_2 block i) c.in-Some-failed_in_extents.rule (sym c.failed_in_extents.ensures ∙ c.in-Some-failed_in_extents.is))

pub returns : goal.returns
unfolding entry_tests_2
returns c =
    let block = c.args.block.now in
    let i = c.args.i in
    c.failed_in_last_2.ensures
    ∙ sym (failed-append-none (name_tests block i) (past-name block c.args.blocks i) (sym c.failed_in_name.ensures ∙ c.in_default.is)
    ∙ failed-test-yes 15 (extents_test block i).holds (of-extents block c.args.blocks i ++ last_tests_2 block i) (sym c.has_next_extents.ensures ∙ c.if-not-has_next_extents.false)
    ∙ failed-append-none (of-extents block c.args.blocks i) (last_tests_2 block i) (sym c.failed_in_extents.ensures ∙ c.in_default-failed_in_extents.is))
