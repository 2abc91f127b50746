use Rattle.std.proofs.Common.{◌≡◌, length}
use Rattle.vm_script.specs.Cursor.{after_field}
use Rattle.vm_script.proofs.splitting.skip_others.Given as goal

abbrev pub invariant-loop-left : goal.invariant-loop-left
invariant-loop-left l = after_field l.left ≡ after_field l.text

abbrev pub decreases-loop-left : goal.decreases-loop-left
decreases-loop-left l = length l.left
