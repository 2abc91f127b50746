use Rattle.std.proofs.Common.{◌≡◌, ◌++◌, length}
use Rattle.vm_script.specs.Texts.{hex_text}
use Rattle.vm_report.proofs.text.push_hex.Given as goal

abbrev pub invariant-loop-left : goal.invariant-loop-left
invariant-loop-left l = l.out.items ++ hex_text l.left ≡ l.initial.out.items ++ hex_text l.bytes

abbrev pub decreases-loop-left : goal.decreases-loop-left
decreases-loop-left l = length l.left
