use Rattle.volume_files.specs.vm_types.Parts.{part_size}
use Rattle.plan_runs.proofs.Alone.{AloneParts}
use Rattle.plan_runs.proofs.lines.make_parts.Given as goal

abbrev pub invariant-loop-reply : goal.invariant-loop-reply
invariant-loop-reply g l = AloneParts l.initial.state l.state l.fn.call l.fn.bytes l.call l.left

-- A part behind another has fewer bytes to move.
abbrev pub decreases-loop-reply : goal.decreases-loop-reply
decreases-loop-reply g l = part_size l.call
