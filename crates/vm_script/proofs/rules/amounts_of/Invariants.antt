use Rattle.std.proofs.Common.{◌≡◌, length}
use Rattle.std.specs.Prelude.{fold}
use Rattle.vm_script.specs.Rules.{with_amount, amounts_of}
use Rattle.vm_script.proofs.rules.amounts_of.Given as goal

abbrev pub invariant-loop-left : goal.invariant-loop-left
invariant-loop-left l = fold with_amount l.amounts l.left ≡ amounts_of l.setup

abbrev pub decreases-loop-left : goal.decreases-loop-left
decreases-loop-left l = length l.left
