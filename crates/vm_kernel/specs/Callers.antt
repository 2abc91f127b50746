-- What contracts see of a kernel and of its callers. Public clauses cite this.
use Rattle.std.specs.Prelude.{◌≡◌, ◌⊎◌, ◌<◌, ◌^◌, ℕ, suc, false, Option}
use Rattle.kernel_lock.specs.Seats.{LockView, SeatView, IsSeatOf, entries_by, part_of}
use Rattle.kernel_lock.specs.declared.board.SeatPart.{SeatPart}
use Rattle.vm_core.specs.vm_types.declared.call.Entry.{Entry}
use Rattle.vm_core.specs.vm_world.State.{KernelState, Sent}
use Rattle.vm_kernel.specs.Notes.{InHand}
use Rattle.vm_kernel.specs.Since.{seat_of_entry}
use Rattle.vm_kernel.specs.declared.sent.SentFlight.{SentFlight}

-- A kernel is its lock.
abbrev pub KernelSeen : Type 0
KernelSeen = LockView KernelState

-- A seat of it.
abbrev pub SeatSeen : Type 0
SeatSeen = SeatView KernelState Entry Sent

-- A caller: its seat, and its process, or 0.
pub record CallerSeen : Type 0 where
  pub seat : SeatSeen
  pub process : ℕ

-- The caller is one of this kernel's.
abbrev pub IsCallerOf : KernelSeen → CallerSeen → Type 0
IsCallerOf k c = IsSeatOf k c.seat

-- What is known of a caller.
abbrev pub caller_part : CallerSeen → SeatPart Entry Sent
caller_part c = part_of c.seat

-- What the caller has seen has of its own entries just those that it made.
abbrev pub ShowsOwn : CallerSeen → Type 0
ShowsOwn c = entries_by seat_of_entry c.seat.number c.seat.seen ≡ c.seat.own

-- A caller between its calls: its seat is outside, and has seen just the entries that it made; its process is that of the seat, or none; and it has in
-- hand what the seat's note says.
pub record IsIdle {D : Type 0} (v : SeatSeen) (p : ℕ) (sent : Option (SentFlight D)) : Type 0 where
  pub outside : v.inside ≡ false
  pub low : v.number < 2 ^ 32
  pub own : entries_by seat_of_entry v.number v.seen ≡ v.own
  pub named : (p ≡ 0) ⊎ (p ≡ suc v.number)
  pub hand : InHand sent v.note
