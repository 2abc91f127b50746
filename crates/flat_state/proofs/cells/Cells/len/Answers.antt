use Rattle.std.proofs.Common.{◌∙◌, ap, sym, length}
use Rattle.std.specs.FinMap as map
use Rattle.flat_state.specs.Cells.{flat_cell}
use Rattle.flat_state.proofs.Trees.{each, entries_mapped, length_map}
use Rattle.flat_state.proofs.cells.Cells.len.Goals as goal

pub returns : goal.returns
returns c =
    c.len.ensures.len ∙ sym (length_map (λ e. (e.0, flat_cell e.1)) c.self.inside.cells.entries)
    ∙ ap length (sym (entries_mapped flat_cell c.self.inside.cells.entries c.len.ensures.ordered)) ∙ sym (map.len-entries (map.from_entries (each flat_cell c.self.inside.cells.entries)))
    ∙ ap map.len c.self.view_is
