use Rattle.std.specs.Prelude.{◌≡◌, sum_by}
use Rattle.std.specs.BTreeMap.{values}
use Rattle.flat_model.specs.Flat.{private_cells}
use Rattle.flat_state.specs.Mapped.{slots_left}
use Rattle.flat_state.proofs.spaces.cell_slots_left.Given as goal

-- what is left after the spaces so far, less the others, is what is left after all
abbrev pub invariant-loop-cells : goal.invariant-loop-cells
invariant-loop-cells l =
    (goal.iterator-loop-cells).can_next l.cells-iterator ×
    (goal.iterator-loop-cells).is_finite l.cells-iterator ×
    (slots_left l.left (sum_by private_cells l.cells-iterator) ≡ slots_left l.slots (sum_by private_cells (values l.spaces)))
