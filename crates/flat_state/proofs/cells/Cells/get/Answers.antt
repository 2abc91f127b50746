use Rattle.std.proofs.Common.{◌∙◌, ap, sym}
use Rattle.std.specs.Prelude.{option_map}
use Rattle.std.specs.FinMap as map
use Rattle.flat_state.specs.Cells.{flat_cell}
use Rattle.flat_state.proofs.Maps.{get_mapped, mapped_copied}
use Rattle.flat_state.proofs.cells.Cells.get.Goals as goal

pub returns : goal.returns
returns c = mapped_copied flat_cell c.get.result ∙ ap (option_map flat_cell) c.get.ensures.value ∙ sym (get_mapped flat_cell c.self.inside.cells.entries c.args.page) ∙ ap (λ m. map.get m c.args.page) c.self.view_is
