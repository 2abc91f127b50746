use Rattle.std.proofs.Common.{◌≡◌}
use Rattle.vm_script.specs.Printed.{with_statements}
use Rattle.vm_script.specs.Generated.{end_loads}
use Rattle.vm_script.proofs.generating.add_end_loads.Given as goal

abbrev pub invariant-loop-j : goal.invariant-loop-j
invariant-loop-j l = l.growing ≡ with_statements l.initial.growing l.line (end_loads l.j)
