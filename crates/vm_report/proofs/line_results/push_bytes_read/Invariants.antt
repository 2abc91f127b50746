use Rattle.std.proofs.Common.{◌≡◌, ◌++◌, length}
use Rattle.vm_script.specs.Texts.{hex_text}
use Rattle.vm_report.specs.Results.{bytes_read}
use Rattle.vm_report.proofs.line_results.push_bytes_read.Given as goal

abbrev pub invariant-loop-entry : goal.invariant-loop-entry
invariant-loop-entry l = l.out.items ++ hex_text (bytes_read l.left) ≡ l.initial.out.items ++ hex_text (bytes_read l.entries)

abbrev pub decreases-loop-entry : goal.decreases-loop-entry
decreases-loop-entry l = length l.left
