use Rattle.std.proofs.Common.{◌∙◌, ap, sym}
use Rattle.std.specs.Prelude.{is_some}
use Rattle.std.specs.FinMap as map
use Rattle.flat_state.specs.Cells.{flat_cell}
use Rattle.flat_state.proofs.Maps.{get_mapped}
use Rattle.flat_state.proofs.Slots.{is_some_mapped}
use Rattle.flat_state.proofs.cells.Cells.has.Goals as goal

pub returns : goal.returns
returns c =
    c.contains_key.ensures ∙ is_some_mapped flat_cell _ ∙ ap is_some (sym (get_mapped flat_cell c.self.inside.cells.entries c.args.page)) ∙ ap (λ m. is_some (map.get m c.args.page)) c.self.view_is
