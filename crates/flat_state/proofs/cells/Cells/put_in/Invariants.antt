use Rattle.std.specs.Prelude.{◌≡◌}
use Rattle.flat_model.specs.Space.{with_cells}
use Rattle.flat_state.specs.Cells.{flat_cell, with_index}
use Rattle.flat_state.proofs.cells.Cells.put_in.Given as goal

-- the cells so far are in
abbrev pub invariant-loop-i : goal.invariant-loop-i
invariant-loop-i l = l.self ≡ with_cells l.fn.self l.first l.i (λ i. with_index (flat_cell l.cell) i)
