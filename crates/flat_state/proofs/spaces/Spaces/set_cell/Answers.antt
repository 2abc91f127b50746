use Rattle.std.proofs.Common.{◌∙◌, ap, sym}
use Rattle.std.specs.Prelude.{is_some, unwrap_or}
use Rattle.std.specs.FinMap as map
use Rattle.flat_state.specs.Cells.{flat_cell}
use Rattle.flat_model.proofs.Maps.{on_err_any}
use Rattle.flat_state.proofs.Maps.{get_at, insert_at, insert_same}
use Rattle.flat_state.proofs.spaces.Spaces.set_cell.Goals as goal

pub returns-in_default-clause-ok : goal.returns-in_default-clause-ok
returns-in_default-clause-ok c =
    let none = ap (λ m. map.get m c.args.process) (sym c.self.view_is) ∙ get_at c.self.inside.spaces.entries c.args.process ∙ sym c.in_default.ensures.value in
    absurd (let e = sym (ap is_some none) ∙ c.requires in cc)

pub returns-in_err-insert-clause-err : goal.returns-in_err-insert-clause-err
returns-in_err-insert-clause-err c =
    let updates = (c.get_mut.follows.holds c.insert.new.self).3 (sym (ap is_some c.in-Some.ensures.value)) in
    let whole = insert_at c.self.inside.spaces.entries (c.get_mut.follows.lender c.insert.new.self).entries c.args.process c.insert.new.self updates.0 in
    on_err_any _ _ (whole ∙ ap (map.insert (map.from_entries c.self.inside.spaces.entries) c.args.process) c.in_err-insert.ensures.err
    ∙ insert_same (map.from_entries c.self.inside.spaces.entries) c.args.process c.in-Some.space.now (get_at c.self.inside.spaces.entries c.args.process ∙ sym c.in-Some.ensures.value) ∙ c.self.view_is)

pub returns-clause-ok : goal.returns-clause-ok
returns-clause-ok c =
    let updates = (c.get_mut.follows.holds c.insert.new.self).3 (sym (ap is_some c.in-Some.ensures.value)) in
    let whole = insert_at c.self.inside.spaces.entries (c.get_mut.follows.lender c.insert.new.self).entries c.args.process c.insert.new.self updates.0 in
    let here = ap (λ m. map.get m c.args.process) (sym c.self.view_is) ∙ get_at c.self.inside.spaces.entries c.args.process ∙ sym c.in-Some.ensures.value in
    whole ∙ ap (map.insert (map.from_entries c.self.inside.spaces.entries) c.args.process) c.in_ok-insert.ensures.ok
    ∙ ap (λ m. map.insert m c.args.process (map.insert c.in-Some.space.now c.args.page (flat_cell c.args.cell))) c.self.view_is
    ∙ ap (λ o. map.insert c.args.self.now c.args.process (map.insert (unwrap_or o map.empty) c.args.page (flat_cell c.args.cell))) (sym here)
