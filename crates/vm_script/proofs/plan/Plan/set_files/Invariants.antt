use Rattle.std.proofs.Common.{◌≡◌, ◌++◌, map, take, drop}
use Rattle.vm_script.specs.FileNames.{line_with_file}
use Rattle.vm_script.proofs.plan.Plan.set_files.Given as goal

abbrev pub invariant-loop-line : goal.invariant-loop-line
invariant-loop-line l = l.line-items ≡ map (line_with_file l.names) (take l.line-index l.initial.line-items) ++ drop l.line-index l.initial.line-items
