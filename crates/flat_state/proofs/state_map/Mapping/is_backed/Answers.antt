use Rattle.std.proofs.Common.{◌∙◌, ap, sym, length}
use Rattle.std.specs.Prelude.{is_some, sum_by}
use Rattle.std.specs.FinMap as finite
use Rattle.flat_model.specs.Flat.{private_cells}
use Rattle.flat_state.specs.Cells.{zeros_in}
use Rattle.flat_state.specs.Mapped.{slots_left}
use Rattle.flat_state.proofs.Slots.{left_twice, zero_sum}
use Rattle.flat_state.proofs.state_map.Mapping.is_backed.Goals as goal

pub returns-in-Some : goal.returns-in-Some
returns-in-Some c =
    let m = c.args.self.now in
    c.is_some.ensures ∙ ap is_some (c.object_slots_left.ensures.left ∙ ap (slots_left c.in-Some.left) (sym (zero_sum m.zeros.entries c.object_slots_left.ensures.ordered)))
    ∙ (left_twice c.args.slots (sum_by private_cells (finite.values m.spaces)) (sum_by length (finite.values (zeros_in m.zeros))) c.slots_left.result c.slots_left.ensures).1 c.in-Some.left c.in-Some.is
