use Rattle.std.proofs.Common.{rules, sym, inl, inr, length}
use Rattle.std.proofs.lemmas.Bool.{cases_lt}
use Rattle.flat_state.specs.Cells.{flat_file, with_last_page}
use Rattle.flat_state.proofs.Trees.{changed_there, changed_past}
use Rattle.flat_state.proofs.files.put_last_page.Goals as goal

pub returns-in-Some : goal.returns-in-Some
returns-in-Some c =
    let old = c.in-Some.file.now in
    changed_there flat_file (with_last_page c.args.page.items) c.args.files.now.items c.args.number old c.set_last_page.new.self (search rules) (search rules) c.set_last_page.ensures

pub returns-in_default : goal.returns-in_default
returns-in_default c = sym (changed_past flat_file (with_last_page c.args.page.items) c.args.files.now.items c.args.number (elim (cases_lt c.args.number (length c.args.files.now.items)) [
  | inl lt ↦ absurd (let some = c.in_default.ensures.variant.1 (search rules) in cc)
  | inr le ↦ le
]))
