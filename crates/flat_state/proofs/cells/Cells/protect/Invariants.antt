use Rattle.std.specs.Prelude.{◌≡◌}
use Rattle.flat_model.specs.Space.{with_prots}
use Rattle.flat_state.proofs.cells.Cells.protect.Given as goal

-- the cells so far have the protection
abbrev pub invariant-loop-i : goal.invariant-loop-i
invariant-loop-i l = l.self ≡ with_prots l.fn.self l.first l.i l.prot
