use Rattle.std.proofs.Common.{◌≡◌, length, map}
use Rattle.trace_text.specs.OpeningReading.{extents_of_parts}
use Rattle.trace_text.proofs.Extents.{with_read}
use Rattle.trace_text.proofs.opening_words.extents_of_parts.Given as goal

abbrev pub invariant-loop-left : goal.invariant-loop-left
invariant-loop-left l = with_read l.extents.items (extents_of_parts (map (λ w. w.now) l.left)) ≡ extents_of_parts (map (λ w. w.now) l.parts)

abbrev pub decreases-loop-left : goal.decreases-loop-left
decreases-loop-left l = length l.left
