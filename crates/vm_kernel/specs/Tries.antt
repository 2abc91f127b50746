-- What a caller does at the lock, one try after another. Public clauses cite this.
use Rattle.std.specs.Prelude.{◌≡◌, ◌⊎◌, ℕ, zero, suc, Option, Some, None, Result, Ok, Err}
use Rattle.kernel_lock.specs.Seats.{HasTried, IsEntered, after_enter, after_refusal, part_of}
use Rattle.vm_core.specs.vm_types.declared.call.Call.{Call}
use Rattle.vm_core.specs.vm_types.declared.call.Reply.{Reply}
use Rattle.vm_core.specs.vm_world.State.{KernelState, Sent}
use Rattle.vm_kernel.specs.Callers.{KernelSeen, SeatSeen, CallerSeen}
use Rattle.vm_kernel.specs.Since.{seat_of_entry, history_of, IsSinceOpening}
use Rattle.vm_kernel.specs.Tells.{TellsTry}
use Rattle.vm_kernel.specs.Visits.{LeavesTelling, LeavesEnd, LeavesHand}
use Rattle.vm_kernel.specs.declared.steps.Tried.{Tried}

-- The seat was refused: another had the state.
abbrev pub FindsLockHeld : SeatSeen → SeatSeen → Type 0
FindsLockHeld v w = (by : ℕ) × (w ≡ after_refusal v by)

-- A state that a seat finds where it goes in: it fits the opening and the notes of all seats, and holds to what is known of this one.
abbrev pub MayFind : KernelSeen → SeatSeen → KernelState → Type 0
MayFind k v s = IsEntered seat_of_entry history_of IsSinceOpening k.opening k.seats (part_of v) s

-- The seat went in, tried this call of this process, left and told of it, and the try came to this.
pub record TriesInside (k : KernelSeen) (p : ℕ) (call : Call) (v w : SeatSeen) (tried : Result Tried (Unit {0})) : Type 0 where
  pub found : KernelState
  pub finds : MayFind k v found
  pub note : Option Sent
  pub changes : ℕ
  pub files : ℕ
  pub tells : TellsTry call tried changes files
  pub leaves : LeavesTelling changes files (after_enter v found) found p call w note tried

-- The seat went in, ended the transfer that it had out for this call of this process, left and told of it.
pub record EndsInside (k : KernelSeen) (p : ℕ) (call : Call) (v w : SeatSeen) : Type 0 where
  pub found : KernelState
  pub finds : MayFind k v found
  pub note : Sent
  pub noted : v.note ≡ Some note
  pub of : note.of ≡ Some (p, call)
  pub reply : Option Reply
  pub leaves : LeavesEnd (after_enter v found) found note w reply

-- ONE TRY OF THE LOCK FOR A CALL: it was refused, or the call was tried, or a transfer for the call ended.
abbrev pub IsTryFor : KernelSeen → ℕ → Call → SeatSeen → SeatSeen → Type 0
IsTryFor k p call v w = FindsLockHeld v w ⊎ (((tried : Tried) × TriesInside k p call v w (Ok tried)) ⊎ EndsInside k p call v w)

-- So many of them, one after another.
abbrev pub AreTriesFor : KernelSeen → ℕ → Call → ℕ → SeatSeen → SeatSeen → Type 0
AreTriesFor k p call zero v w = w ≡ v
AreTriesFor k p call (suc n) v w = (m : SeatSeen) × AreTriesFor k p call n v m × IsTryFor k p call m w

-- NOTHING BESIDE THE CALL: each try of the lock was for it.
abbrev pub IsAllFor : KernelSeen → CallerSeen → Call → CallerSeen → Type 0
IsAllFor k c call d = (tries : ℕ) × AreTriesFor k c.process call tries c.seat d.seat

-- The same of a call that answers. Where memory lacked, it lacked at a try of the call, which was the last try of the lock.
abbrev pub IsAllTo : {A E : Type 0} → KernelSeen → CallerSeen → Call → CallerSeen → Result A E → Type 0
IsAllTo k c call d (Ok answer) = IsAllFor k c call d
IsAllTo k c call d (Err e) =
    (m : SeatSeen) × (tries : ℕ) × AreTriesFor k c.process call tries c.seat m × TriesInside k c.process call m d.seat (Err tt)

-- The seat went in, perhaps after it was refused, moved a hand of the clock, began the push that this asks for, and left.
pub record MovesInside (k : KernelSeen) (v w : SeatSeen) : Type 0 where
  pub found : KernelState
  pub finds : MayFind k v found
  pub inside : SeatSeen
  pub waited : HasTried (after_enter v found) inside
  pub note : Option Sent
  pub leaves : LeavesHand inside found w note

-- The seat went in, perhaps after it was refused, ended a push that is for no call, and left.
pub record LandsInside (k : KernelSeen) (v w : SeatSeen) : Type 0 where
  pub found : KernelState
  pub finds : MayFind k v found
  pub inside : SeatSeen
  pub waited : HasTried (after_enter v found) inside
  pub note : Sent
  pub noted : v.note ≡ Some note
  pub of : note.of ≡ None
  pub reply : Option Reply
  pub leaves : LeavesEnd inside found note w reply

-- ONE MOVE OF A HAND, and the end of its push where it asked for one.
abbrev pub IsMove : KernelSeen → SeatSeen → SeatSeen → Type 0
IsMove k v w = (m : SeatSeen) × MovesInside k v m × ((w ≡ m) ⊎ LandsInside k m w)

-- So many of them, one after another.
abbrev pub AreMoves : KernelSeen → ℕ → SeatSeen → SeatSeen → Type 0
AreMoves k zero v w = w ≡ v
AreMoves k (suc n) v w = (m : SeatSeen) × AreMoves k n v m × IsMove k m w
