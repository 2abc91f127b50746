use Rattle.std.proofs.Common.{◌∙◌, ap}
use Rattle.std.specs.FinMap as map
use Rattle.flat_state.specs.Cells.{flat_cell}
use Rattle.flat_state.proofs.Maps.{mapped_insert}
use Rattle.flat_state.proofs.cells.Cells.insert.Goals as goal

pub returns-clause-ok : goal.returns-clause-ok
returns-clause-ok c = mapped_insert flat_cell c.self.inside.cells.entries c.insert.new.self.entries c.args.page c.args.cell c.in_ok-insert.ensures.updates.0 ∙ ap (λ m. map.insert m c.args.page (flat_cell c.args.cell)) c.self.view_is
