use Rattle.std.proofs.Common.{◌≡◌, ◌+◌, ◌%◌, ◌^◌, length}
use Rattle.std.specs.Prelude.{sum_by}
use Rattle.vm_report.specs.Summary.{word_of}
use Rattle.vm_report.proofs.summaries.sum_of_words.Given as goal

abbrev pub invariant-loop-entry : goal.invariant-loop-entry
invariant-loop-entry l = (l.sum + sum_by (λ e. word_of e.reply) l.left) % 2 ^ 32 ≡ sum_by (λ e. word_of e.reply) l.history % 2 ^ 32

abbrev pub decreases-loop-entry : goal.decreases-loop-entry
decreases-loop-entry l = length l.left
