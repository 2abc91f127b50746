use Rattle.std.proofs.Common.{◌-◌, length}
use Rattle.trace_text.specs.LinesRead.{HasRead}
use Rattle.trace_text.specs.OpeningSeen.{place_seen, trace_seen}
use Rattle.trace_text.proofs.opening.read_opening.Given as goal

abbrev pub invariant-loop-left : goal.invariant-loop-left
invariant-loop-left l = HasRead l.text l.left (trace_seen l.so_far) (place_seen l.so_far) l.lines

abbrev pub decreases-loop-left : goal.decreases-loop-left
decreases-loop-left l = length l.text - l.lines
