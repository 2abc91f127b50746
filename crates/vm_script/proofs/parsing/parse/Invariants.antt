use Rattle.std.proofs.Common.{◌≡◌, ◌+◌, ◌≤◌, length}
use Rattle.vm_script.specs.Lines.{lines}
use Rattle.vm_script.specs.Plans.{plan_from, plan_of}
use Rattle.vm_script.proofs.parsing.parse.Given as goal

abbrev pub invariant-loop-left : goal.invariant-loop-left
invariant-loop-left l = record {
  so_far : plan_from l.line l.growing (lines l.left) ≡ plan_of l.text;
  few : l.line + length l.left ≤ 1048576;
  few_blocks : length l.growing.parents ≤ l.line;
}

abbrev pub decreases-loop-left : goal.decreases-loop-left
decreases-loop-left l = length l.left
