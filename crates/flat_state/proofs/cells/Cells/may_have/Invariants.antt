use Rattle.std.specs.Prelude.{◌≡◌, true}
use Rattle.flat_model.specs.Mapping.{may_have}
use Rattle.flat_state.proofs.cells.Cells.may_have.Given as goal

-- each cell so far may have the protection
abbrev pub invariant-loop-i : goal.invariant-loop-i
invariant-loop-i l = may_have l.self l.first l.i l.prot ≡ true
