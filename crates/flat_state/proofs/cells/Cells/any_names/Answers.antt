use Rattle.std.proofs.Common.{◌∙◌, ap, sym}
use Rattle.std.specs.List.{list_any}
use Rattle.std.specs.Map.{values_of}
use Rattle.std.specs.FinMap as map
use Rattle.flat_state.specs.Cells.{flat_cell, names}
use Rattle.flat_state.proofs.Trees.{values_mapped, any_map}
use Rattle.flat_state.proofs.cells.Cells.any_names.Goals as goal

pub returns : goal.returns
returns c =
    c.any_names.ensures.any ∙ sym (any_map (names c.args.zero) flat_cell (values_of c.self.inside.cells.entries))
    ∙ ap (list_any (names c.args.zero)) (sym (values_mapped flat_cell c.self.inside.cells.entries c.any_names.ensures.ordered) ∙ ap map.values c.self.view_is)
