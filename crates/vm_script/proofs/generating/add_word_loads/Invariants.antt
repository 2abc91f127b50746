use Rattle.std.proofs.Common.{◌≡◌}
use Rattle.vm_script.specs.Printed.{with_statements}
use Rattle.vm_script.specs.Generated.{word_loads}
use Rattle.vm_script.proofs.generating.add_word_loads.Given as goal

abbrev pub invariant-loop-k : goal.invariant-loop-k
invariant-loop-k l = l.growing ≡ with_statements l.initial.growing l.line (word_loads l.n l.k)
