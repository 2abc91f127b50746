use Rattle.std.specs.Prelude.{◌≡◌, ◌≤◌, ◌+◌, ◌^◌, sum_by, length}
use Rattle.std.specs.BTreeMap.{values}
use Rattle.flat_model.specs.Flat.{slots_for}
use Rattle.flat_state.specs.Cells.{flat_cell}
use Rattle.flat_state.proofs.cells.count_private.Given as goal

-- the count so far and the private cells that are left
abbrev pub invariant-loop-cell : goal.invariant-loop-cell
invariant-loop-cell l =
    (goal.iterator-loop-cell).can_next l.cell-iterator ×
    (goal.iterator-loop-cell).is_finite l.cell-iterator ×
    (l.count + length l.cell-iterator ≤ 2 ^ 63) ×
    (l.count + sum_by (λ c. slots_for (flat_cell c)) l.cell-iterator ≡ sum_by (λ c. slots_for (flat_cell c)) (values l.cells))
