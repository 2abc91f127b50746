use Rattle.std.proofs.Common.{rules, sym, ap, inl, inr, length}
use Rattle.std.proofs.lemmas.Bool.{cases_lt}
use Rattle.flat_model.specs.Access.{file_with_page}
use Rattle.flat_state.specs.Cells.{flat_file}
use Rattle.flat_state.proofs.Trees.{changed_there, changed_past, file_by}
use Rattle.flat_state.proofs.files.set_file_page.Goals as goal

pub returns-in-Some : goal.returns-in-Some
returns-in-Some c =
    let old = c.in-Some.file.now in
    changed_there flat_file (file_with_page c.args.index c.args.page.items) c.args.files.now.items c.args.file old _ (search rules) (search rules) (ap (file_by old.len old.disk old.extents.items old.writable) c.set_page.ensures)

pub returns-in_default : goal.returns-in_default
returns-in_default c = sym (changed_past flat_file (file_with_page c.args.index c.args.page.items) c.args.files.now.items c.args.file (elim (cases_lt c.args.file (length c.args.files.now.items)) [
  | inl lt ↦ absurd (let some = c.in_default.ensures.variant.1 (search rules) in cc)
  | inr le ↦ le
]))
