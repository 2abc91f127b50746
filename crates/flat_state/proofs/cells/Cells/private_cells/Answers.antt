use Rattle.std.proofs.Common.{◌∙◌, ap, sym}
use Rattle.std.specs.List.{sum_by}
use Rattle.std.specs.Map.{values_of}
use Rattle.flat_model.specs.Flat.{slots_for, private_cells}
use Rattle.flat_state.specs.Cells.{flat_cell}
use Rattle.flat_state.proofs.Trees.{values_mapped, sum_map}
use Rattle.flat_state.proofs.cells.Cells.private_cells.Goals as goal

pub returns : goal.returns
returns c =
    c.count_private.ensures.count ∙ sym (sum_map slots_for flat_cell (values_of c.self.inside.cells.entries))
    ∙ ap (sum_by slots_for) (sym (values_mapped flat_cell c.self.inside.cells.entries c.count_private.ensures.ordered)) ∙ ap private_cells c.self.view_is
