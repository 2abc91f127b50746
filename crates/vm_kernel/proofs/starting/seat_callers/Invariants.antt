use Rattle.std.proofs.Common.{◌≡◌, ◌+◌, ◌≤◌, length, reverse, drop, vec_len, vec_capacity}
use Rattle.kernel_lock.specs.Seats.{AreNew}
use Rattle.vm_kernel.specs.Rooms.{callers_from}
use Rattle.vm_kernel.proofs.starting.seat_callers.Given as goal

abbrev pub invariant-loop-seat : goal.invariant-loop-seat
invariant-loop-seat g l = (vec_len l.row + vec_len l.seats ≡ length l.rooms) × (length l.rooms ≤ vec_capacity l.row) × AreNew l.lock l.seats.items
    × (l.row.items ≡ reverse (callers_from l.lock (vec_len l.seats) (drop (vec_len l.seats) l.rooms)))

abbrev pub decreases-loop-seat : goal.decreases-loop-seat
decreases-loop-seat g l = goal.left-loop-seat g l
