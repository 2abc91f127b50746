use Rattle.std.proofs.Common.{◌≡◌, length}
use Rattle.std.specs.List.{list_any}
use Rattle.vm_script.specs.Told.{is_birth}
use Rattle.vm_report.proofs.sections.is_forked.Given as goal

abbrev pub invariant-loop-entry : goal.invariant-loop-entry
invariant-loop-entry l = list_any (is_birth l.process) l.left ≡ list_any (is_birth l.process) l.history

abbrev pub decreases-loop-entry : goal.decreases-loop-entry
decreases-loop-entry l = length l.left
