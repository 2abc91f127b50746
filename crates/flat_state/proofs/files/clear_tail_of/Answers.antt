use Rattle.std.proofs.Common.{◌<◌, ◌≤◌, length, sym, arith, rules, inl, inr}
use Rattle.flat_state.specs.Cells.{flat_file, with_last_page}
use Rattle.flat_model.specs.Parts.{without_tail}
use Rattle.flat_state.proofs.Trees.{changed_there, changed_past, length_map}
use Rattle.flat_state.proofs.FilePages.{at-mapped, changed_back, file-at, set-alike, on_err}
use Rattle.std.proofs.lemmas.Bool.{cases_lt}
use Rattle.flat_state.proofs.files.clear_tail_of.Goals as goal
use Rattle.flat_state.proofs.files.clear_tail_of.Goals.{In_default}

past : (c : In_default) → length c.args.files.now.items ≤ c.args.number
past c = elim (cases_lt c.args.number (length c.args.files.now.items)) [
  | inl lt ↦ absurd (let some = c.in_default.ensures.variant.1 (search rules) in cc)
  | inr le ↦ le
]

pub clear_tail-requires : goal.clear_tail-requires
clear_tail-requires c =
    let files = c.args.files.now.items in
    let lt : c.args.number < length files = search rules in
    file-at _ c.args.number (flat_file c.in-Some.file.now) c.requires (omega (arith, lt, length_map flat_file files)) (at-mapped flat_file files c.args.number c.in-Some.file.now lt (search rules))

pub returns-clause-ok : goal.returns-clause-ok
returns-clause-ok c = changed_there flat_file without_tail c.args.files.now.items c.args.number c.in-Some.file.now c.clear_tail.new.self (search rules) (search rules) c.in_ok-page.ensures.ok

pub returns-clause-page : goal.returns-clause-page
returns-clause-page c = changed_back flat_file (with_last_page c.in_ok-page.page.items) c.args.files.now.items c.args.number c.in-Some.file.now c.clear_tail.new.self (search rules) (search rules) c.in_ok-page.ensures.page

pub returns-in_err-page-clause-err : goal.returns-in_err-page-clause-err
returns-in_err-page-clause-err c = on_err _ (set-alike flat_file c.args.files.now.items c.args.number c.in-Some.file.now c.clear_tail.new.self (search rules) (search rules) c.in_err-page.ensures.err)

pub returns-in_default-clause-ok : goal.returns-in_default-clause-ok
returns-in_default-clause-ok c = sym (changed_past flat_file without_tail c.args.files.now.items c.args.number (past (goal.at.returns-in_default-clause-ok c).In_default))

pub returns-in_default-clause-page : goal.returns-in_default-clause-page
returns-in_default-clause-page c = changed_past flat_file (with_last_page c.new.result.items) c.args.files.now.items c.args.number (past (goal.at.returns-in_default-clause-page c).In_default)
