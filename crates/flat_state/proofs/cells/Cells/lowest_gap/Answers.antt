use Rattle.std.proofs.Common.{◌∙◌, ap, sym}
use Rattle.std.specs.FinMap as map
use Rattle.flat_model.specs.Space.{lowest_gap_from}
use Rattle.flat_state.specs.Cells.{flat_cell}
use Rattle.flat_state.proofs.Trees.{entries_mapped}
use Rattle.flat_state.proofs.cells.Cells.lowest_gap.Goals as goal

pub returns-clause-gap : goal.returns-clause-gap
returns-clause-gap c =
    c.gap.ensures.gap ∙ ap (lowest_gap_from 1 c.args.count) (sym (entries_mapped flat_cell c.self.inside.cells.entries c.gap.ensures.ordered) ∙ ap map.entries c.self.view_is)
