use Rattle.std.proofs.Common.{◌≡◌, length}
use Rattle.vm_script.specs.Rules.{has_wrong_disk}
use Rattle.vm_script.proofs.rules.has_wrong_disk.Given as goal

abbrev pub invariant-loop-left : goal.invariant-loop-left
invariant-loop-left l = has_wrong_disk l.left ≡ has_wrong_disk l.setup

abbrev pub decreases-loop-left : goal.decreases-loop-left
decreases-loop-left l = length l.left
