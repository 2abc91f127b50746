use Rattle.std.proofs.Common.{◌≡◌, ◌+◌, ◌*◌, length}
use Rattle.block_runs.proofs.blocks.+blocks.Given as goal
use Rattle.block_runs.proofs.Stretching.{GoesOn}
use Rattle.block_runs.proofs.Over.{Between}

abbrev pub decreases-run_block : goal.decreases-run_block
decreases-run_block g l = 5 * length l.lines.now + 1

abbrev pub decreases-run_stretch : goal.decreases-run_stretch
decreases-run_stretch g l = 5 * length l.lines.now

abbrev pub decreases-run_both : goal.decreases-run_both
decreases-run_both g l = 5 * (length l.inside.now + length l.others.now) + 4

abbrev pub decreases-run_both-join_mut+arg2 : goal.decreases-run_both-join_mut+arg2
decreases-run_both-join_mut+arg2 g l = 5 * length l.inside.now + 2

abbrev pub decreases-run_both-join_mut+arg3 : goal.decreases-run_both-join_mut+arg3
decreases-run_both-join_mut+arg3 g l = 5 * length l.others.now + 1

abbrev pub invariant-run_block-loop-left : goal.invariant-run_block-loop-left
invariant-run_block-loop-left g l = Between (g.K.Calls.kernel l.fn.kernel) l.initial.caller l.caller l.fn.lines l.left l.rest l.first l.next (length l.initial.rest)

abbrev pub decreases-run_block-loop-left : goal.decreases-run_block-loop-left
decreases-run_block-loop-left g l = length l.left

abbrev pub invariant-run_stretch-loop-line : goal.invariant-run_stretch-loop-line
invariant-run_stretch-loop-line g l = record {
  rest : l.rest ≡ l.initial.rest;
  on : GoesOn (g.K.Calls.kernel l.fn.kernel) l.initial.caller l.caller l.fn.lines l.left l.initial.rest l.first l.next;
}

abbrev pub decreases-run_stretch-loop-line : goal.decreases-run_stretch-loop-line
decreases-run_stretch-loop-line g l = length l.left
