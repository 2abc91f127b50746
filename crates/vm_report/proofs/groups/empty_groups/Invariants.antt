use Rattle.std.proofs.Common.{◌≡◌, [], replicate}
use Rattle.vm_report.proofs.groups.empty_groups.Given as goal

abbrev pub invariant-loop : goal.invariant-loop
invariant-loop g l = l.groups.items ≡ replicate l.counter []
