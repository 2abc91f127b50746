use Rattle.std.specs.Prelude.{◌≡◌, true}
use Rattle.flat_model.specs.Mapping.{are_mapped}
use Rattle.flat_state.proofs.cells.Cells.are_mapped.Given as goal

-- each page so far has a cell
abbrev pub invariant-loop-i : goal.invariant-loop-i
invariant-loop-i l = are_mapped l.self l.first l.i ≡ true
