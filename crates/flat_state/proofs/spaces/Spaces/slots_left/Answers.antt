use Rattle.std.proofs.Common.{◌∙◌, ap, sym}
use Rattle.std.specs.Prelude.{sum_by}
use Rattle.std.specs.FinMap as map
use Rattle.flat_model.specs.Flat.{private_cells}
use Rattle.flat_state.specs.Mapped.{slots_left}
use Rattle.flat_state.proofs.Trees.{values_plain}
use Rattle.flat_state.proofs.spaces.Spaces.slots_left.Goals as goal

pub returns : goal.returns
returns c =
    c.cell_slots_left.ensures.left ∙ ap (λ vs. slots_left c.args.slots (sum_by private_cells vs)) (sym (values_plain c.self.inside.spaces.entries c.cell_slots_left.ensures.ordered) ∙ ap map.values c.self.view_is)
