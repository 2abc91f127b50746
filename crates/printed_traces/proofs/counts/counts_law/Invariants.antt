use Rattle.std.proofs.Common.{length}
use Rattle.std.specs.Prelude.{All}
use Rattle.printed_traces.specs.Printed.{HasToldCounts}
use Rattle.printed_traces.proofs.counts.counts_law.Given as goal

abbrev pub invariant-loop-entry : goal.invariant-loop-entry
invariant-loop-entry l = All (λ e. HasToldCounts e.reply) l.left → All (λ e. HasToldCounts e.reply) l.history

abbrev pub decreases-loop-entry : goal.decreases-loop-entry
decreases-loop-entry l = length l.left
