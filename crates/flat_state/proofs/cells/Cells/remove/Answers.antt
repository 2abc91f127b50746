use Rattle.std.proofs.Common.{◌∙◌, ap}
use Rattle.std.specs.FinMap as map
use Rattle.flat_state.specs.Cells.{flat_cell}
use Rattle.flat_state.proofs.Trees.{mapped_remove}
use Rattle.flat_state.proofs.cells.Cells.remove.Goals as goal

pub returns : goal.returns
returns c = mapped_remove flat_cell c.self.inside.cells.entries c.remove-cell.new.self.entries c.args.page c.remove-cell.ensures.updates.0 ∙ ap (λ m. map.remove m c.args.page) c.self.view_is
