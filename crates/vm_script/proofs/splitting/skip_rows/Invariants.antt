use Rattle.std.proofs.Common.{◌≡◌, length}
use Rattle.vm_script.specs.Cursor.{after_graphic}
use Rattle.vm_script.proofs.splitting.skip_rows.Given as goal

abbrev pub invariant-loop-left : goal.invariant-loop-left
invariant-loop-left l = after_graphic l.left ≡ after_graphic l.text

abbrev pub decreases-loop-left : goal.decreases-loop-left
decreases-loop-left l = length l.left
