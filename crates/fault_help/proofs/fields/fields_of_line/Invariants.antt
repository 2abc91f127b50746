use Rattle.std.proofs.Common.{length}
use Rattle.fault_help.proofs.fields.fields_of_line.Given as goal

abbrev pub decreases-loop-left : goal.decreases-loop-left
decreases-loop-left l = length l.left
