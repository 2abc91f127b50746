use Rattle.std.proofs.Common.{◌≡◌, ◌≤◌, ◌+◌, ◌-◌, ◌++◌, List, length}
use Rattle.std.specs.VecDeque.{deque_capacity, deque_len}
use Rattle.seg_vn.specs.addr_space.Space.{Part}
use Rattle.seg_vn.specs.vm_world.declared.segment.Segment.{Segment}
use Rattle.proc_calls.specs.Pieces.{AreFewHolders, AreRoomsFor, parts_from, rooms_of}
use Rattle.proc_calls.proofs.forks.take_rooms.Given as goal

abbrev pub decreases-loop-first : goal.decreases-loop-first
decreases-loop-first g l = 0x80000 - l.from

abbrev pub invariant-loop-first : goal.invariant-loop-first
invariant-loop-first g l = record {
  done : (done : List (Part Segment)) × (l.space.parts ≡ done ++ parts_from l.from l.space.parts) × AreRoomsFor (rooms_of l.rooms.items) done × AreFewHolders l.world.maps l.pieces done;
  room : deque_len l.rooms + length (parts_from l.from l.space.parts) ≤ deque_capacity l.rooms;
}
