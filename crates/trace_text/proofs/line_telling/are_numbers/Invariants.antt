use Rattle.std.proofs.Common.{take}
use Rattle.std.specs.Prelude.{All}
use Rattle.trace_text.specs.TraceLines.{AreTwoNumbers}
use Rattle.trace_text.proofs.line_telling.are_numbers.Given as goal

abbrev pub invariant-loop-pair : goal.invariant-loop-pair
invariant-loop-pair l = All AreTwoNumbers (take l.pair-index l.pairs)
