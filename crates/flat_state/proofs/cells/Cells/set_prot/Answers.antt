use Rattle.std.proofs.Common.{◌≡◌, ◌∙◌, ap, sym, false}
use Rattle.std.specs.Prelude.{is_some, option_map}
use Rattle.std.specs.FinMap as map
use Rattle.flat_state.specs.Cells.{flat_cell}
use Rattle.flat_state.proofs.Maps.{get_mapped, mapped_insert}
use Rattle.flat_state.proofs.Protects.{prot_absent, prot_there}
use Rattle.flat_state.proofs.cells.Cells.set_prot.Goals as goal

pub returns-then-not-has : goal.returns-then-not-has
returns-then-not-has c = prot_absent c.args.self.now c.args.page c.args.prot (sym c.has.ensures ∙ c.if-not-has.true)

pub returns-in_default : goal.returns-in_default
returns-in_default c =
    let found = ap (λ m. is_some (map.get m c.args.page)) (sym c.self.view_is) ∙ ap is_some (get_mapped flat_cell c.self.inside.cells.entries c.args.page ∙ ap (option_map flat_cell) (sym c.in_default.ensures.value)) in
    let none : c.has.result ≡ false = c.has.ensures ∙ found in
    absurd (let is = c.if-not-has.false in cc)

pub returns : goal.returns
returns c =
    let updates = (c.get_mut.follows.holds c.give.new.cell).3 (sym (ap is_some c.in-Some.ensures.value)) in
    let found = ap (λ m. map.get m c.args.page) (sym c.self.view_is) ∙ get_mapped flat_cell c.self.inside.cells.entries c.args.page ∙ ap (option_map flat_cell) (sym c.in-Some.ensures.value) in
    mapped_insert flat_cell c.self.inside.cells.entries (c.get_mut.follows.lender c.give.new.cell).entries c.args.page c.give.new.cell updates.0
    ∙ ap (λ m. map.insert m c.args.page (flat_cell c.give.new.cell)) c.self.view_is
    ∙ ap (map.insert c.args.self.now c.args.page) c.give.ensures
    ∙ prot_there c.args.self.now c.args.page (flat_cell c.in-Some.cell.now) c.args.prot found
