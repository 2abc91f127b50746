use Rattle.std.proofs.Common.{◌≡◌, length}
use Rattle.fault_help.specs.Helps.{setup_path}
use Rattle.fault_help.proofs.helps.setup_path.Given as goal

abbrev pub invariant-loop-left : goal.invariant-loop-left
invariant-loop-left l = setup_path l.left l.number ≡ setup_path l.setup l.number

abbrev pub decreases-loop-left : goal.decreases-loop-left
decreases-loop-left l = length l.left
