use Rattle.std.proofs.Common.{◌≡◌, ◌+◌, ◌-◌, length}
use Rattle.std.specs.Prelude.{sum_by}
use Rattle.seg_vn.specs.vm_world.CountsFit.{slots_for_part}
use Rattle.proc_calls.specs.Pieces.{parts_from}
use Rattle.proc_calls.proofs.pieces.count_pieces.Given as goal

abbrev pub decreases-loop-first : goal.decreases-loop-first
decreases-loop-first l = 0x80000 - l.from

abbrev pub invariant-loop-first : goal.invariant-loop-first
invariant-loop-first l = record {
  pieces : l.counts.pieces + length (parts_from l.from l.space.parts) ≡ length l.space.parts;
  slots : l.counts.slots + sum_by slots_for_part (parts_from l.from l.space.parts) ≡ sum_by slots_for_part l.space.parts;
}
