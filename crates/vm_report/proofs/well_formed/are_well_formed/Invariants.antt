use Rattle.std.proofs.Common.{length}
use Rattle.std.specs.Prelude.{All}
use Rattle.vm_script.specs.vm_types.WellFormed.{IsWellFormed}
use Rattle.vm_report.proofs.well_formed.are_well_formed.Given as goal

abbrev pub invariant-loop-entry : goal.invariant-loop-entry
invariant-loop-entry l = record {
  only : All (λ e. IsWellFormed e.call) l.left → All (λ e. IsWellFormed e.call) l.history;
  each : All (λ e. IsWellFormed e.call) l.history → All (λ e. IsWellFormed e.call) l.left;
}

abbrev pub decreases-loop-entry : goal.decreases-loop-entry
decreases-loop-entry l = length l.left
