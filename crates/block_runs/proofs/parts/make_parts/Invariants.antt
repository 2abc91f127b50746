use Rattle.block_runs.proofs.Parting.{PartsMade}
use Rattle.block_runs.proofs.parts.make_parts.Given as goal

abbrev pub invariant-loop : goal.invariant-loop
invariant-loop g l = PartsMade (g.K.Calls.kernel l.fn.kernel) l.initial.caller l.caller l.fn.call l.fn.bytes l.call l.left
