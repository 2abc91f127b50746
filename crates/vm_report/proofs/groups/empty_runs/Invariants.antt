use Rattle.std.proofs.Common.{◌≡◌, replicate}
use Rattle.vm_report.specs.Runs.{no_runs}
use Rattle.vm_report.proofs.groups.empty_runs.Given as goal

abbrev pub invariant-loop : goal.invariant-loop
invariant-loop l = l.groups.items ≡ replicate l.counter no_runs
