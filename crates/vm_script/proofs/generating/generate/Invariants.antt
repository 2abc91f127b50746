use Rattle.std.proofs.Common.{◌≡◌, ◌*◌, ◌++◌, length}
use Rattle.std.specs.List.{flat_map}
use Rattle.vm_script.specs.Plans.{empty_plan}
use Rattle.vm_script.specs.Printed.{with_statements}
use Rattle.vm_script.specs.Generated.{generated_setup, generated_block, numbers_below}
use Rattle.vm_script.proofs.generating.generate.Given as goal

abbrev pub invariant-loop-i : goal.invariant-loop-i
invariant-loop-i l = record {
  so_far : l.growing ≡ with_statements empty_plan 0 (generated_setup ++ flat_map (generated_block l.n) (numbers_below l.i));
  outside : l.growing.inside ≡ 0;
  few : length l.growing.parents ≡ 2 * l.i;
}
