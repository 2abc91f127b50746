-- What a caller may ask of a turn, and what a turn comes to. Public clauses cite this.
use Rattle.std.specs.Prelude.{◌≡◌, ◌≢◌, ◌⊎◌, ◌<◌, ◌≤◌, ◌+◌, IsSome, ◌++◌, ◌∷◌, [], ℕ, Bool, Option, Some, None, Result, Ok, Err}
use Rattle.std.specs.Bool.{MatchBool}
use mathlib.Core.List.{IsPrefix}
use Rattle.vm_core.specs.block_device.Counts.{HasRisen}
use Rattle.vm_core.specs.block_device.DiskSeen.{DiskSeen}
use Rattle.vm_core.specs.page_store.Bays.{bay_at, home}
use Rattle.vm_core.specs.page_store.Flight.{FlightSeen, IsPerformed, done}
use Rattle.vm_core.specs.page_store.declared.plan.Hold.{Hold}
use Rattle.vm_core.specs.page_store.declared.plan.Hold.TheVariants as hold
use Rattle.vm_core.specs.vm_types.WellFormed.{IsWellFormed}
use Rattle.vm_core.specs.vm_types.declared.call.Call.{Call}
use Rattle.vm_core.specs.vm_types.declared.call.Reply.{Reply}
use Rattle.vm_core.specs.vm_types.declared.call.Reply.TheVariants as reply
use Rattle.vm_core.specs.Calls.{TakesMemory}
use Rattle.vm_core.specs.vm_world.SeatLaws.{IsKnownAlive, MayComeNext}
use Rattle.vm_core.specs.vm_world.ServingLaws.{done_entry}
use Rattle.vm_core.specs.vm_world.State.{KernelState, Sent}
use Rattle.vm_core.specs.vm_world.Wants.{MayHold, seat_in}
use Rattle.vm_kernel.specs.Callers.{KernelSeen, SeatSeen, CallerSeen, ShowsOwn}
use Rattle.vm_core.specs.fault_entry.Accesses.{IsAccess}
use Rattle.vm_core.specs.fault_entry.declared.answers.Answer.{Answer}
use Rattle.vm_core.specs.fault_entry.declared.answers.Answer.TheVariants as answer
use Rattle.vm_kernel.specs.Steps.{IsNoteFor}
use Rattle.vm_kernel.specs.Tells.{files_of}
use Rattle.vm_kernel.specs.declared.turn.Bell.{Bell}
use Rattle.vm_kernel.specs.declared.turn.Bell.TheVariants.{Leaves, Changes, Files}
use Rattle.vm_kernel.specs.declared.turn.Ended.{Ended}
use Rattle.vm_kernel.specs.declared.turn.Ended.TheVariants as ended
use Rattle.vm_kernel.specs.declared.turn.Quick.{Quick}
use Rattle.vm_kernel.specs.declared.turn.Quick.TheVariants as quick
use Rattle.vm_kernel.specs.declared.steps.Tried.{Tried}
use Rattle.vm_kernel.specs.declared.steps.Tried.TheVariants as tried
use Rattle.vm_kernel.specs.declared.turn.Turn.{Turn}
use Rattle.vm_kernel.specs.declared.turn.Turn.TheVariants.{Done, Again}
use Rattle.vm_kernel.specs.declared.turn.Why.{Why}
use Rattle.vm_kernel.specs.declared.turn.Why.TheVariants.{LockHeld, PageBusy, DiskOut, FileBusy, Moved}

-- A transfer in hand is for this process and call.
abbrev pub IsForCall : ℕ → Call → Option Sent → Type 0
IsForCall p call None = Unit {0}
IsForCall p call (Some note) = note.of ≡ Some (p, call)

-- A CALL MAY BE MADE by a caller, by what it has seen: its process is known to be alive, the call may come next behind the entries that it made, and what
-- it has in hand is for the call.
pub record MayCall (k : KernelSeen) (c : CallerSeen) (call : Call) : Type 0 where
  pub formed : IsWellFormed call
  pub alive : IsKnownAlive k.opening.parents c.seat.seen c.seat.own c.process
  pub next : MayComeNext k.opening.parents k.opening.entries c.seat.own c.process call
  pub hand : IsForCall c.process call c.seat.note

-- The caller is the same, has seen no less, its own entries among it, and its counts didn't fall. For each transfer that came home it told of a change.
pub record CallerGoesOn (c d : CallerSeen) : Type 0 where
  pub process : d.process ≡ c.process
  pub number : d.seat.number ≡ c.seat.number
  pub seen : IsPrefix c.seat.seen d.seat.seen
  pub own : ShowsOwn d
  pub refused : c.seat.refused ≤ d.seat.refused
  pub leaves : c.seat.leaves ≤ d.seat.leaves
  pub emptied : c.seat.emptied ≤ d.seat.emptied
  pub told : c.seat.told + d.seat.emptied ≤ d.seat.told + c.seat.emptied
  pub told_files : c.seat.told_files ≤ d.seat.told_files

-- How often a caller tried the lock: each time it was refused, or went in and left.
abbrev pub lock_tries : CallerSeen → ℕ
lock_tries c = c.seat.leaves + c.seat.refused

-- It tried the lock once.
abbrev pub TriesOnce : CallerSeen → CallerSeen → Type 0
TriesOnce c d = lock_tries d ≡ lock_tries c + 1

-- It tried the lock twice round a transfer, which was brought home by the second try, or is in hand.
pub record TriesRound (c d : CallerSeen) : Type 0 where
  pub none : c.seat.note ≡ None
  pub tries : lock_tries d ≡ lock_tries c + 2
  pub transfer : (d.seat.emptied ≡ c.seat.emptied + 1) ⊎ IsSome d.seat.note

-- ONE TURN: one try of the lock, or two round a transfer.
abbrev pub IsOneTurn : CallerSeen → CallerSeen → Type 0
IsOneTurn c d = TriesOnce c d ⊎ TriesRound c d

-- So many moves of a hand of the clock were made, and so many pushes that they began came home: the caller left the lock once for each of both, and told once of
-- each push.
pub record MovesHands (c : CallerSeen) (moves pushes : ℕ) (d : CallerSeen) : Type 0 where
  pub leaves : d.seat.leaves ≡ c.seat.leaves + moves + pushes
  pub emptied : d.seat.emptied ≡ c.seat.emptied + pushes
  pub told : d.seat.told ≡ c.seat.told + pushes

-- The caller has seen more, its own entries among it, and nothing else changed.
pub record HasSeenMore (c d : CallerSeen) : Type 0 where
  pub seen : IsPrefix c.seat.seen d.seat.seen
  pub own : ShowsOwn d
  pub rest : d ≡ record c { seat = record c.seat { seen = d.seat.seen } }

-- The caller of a child that was born has seen more, all that its parent's has seen among it; and where no child was born, it is as it was.
abbrev pub SeesBirth : Bool → CallerSeen → CallerSeen → CallerSeen → Type 0
SeesBirth born p c d = MatchBool born (HasSeenMore c d × IsPrefix p.seat.seen d.seat.seen) (d ≡ c)

-- A transfer that this caller made for the call failed, with these counts: since then its note was emptied, and the note that was emptied last had the disk
-- with the first count; the state that the caller left last has it home with the second.
pub record HasFailed (c : CallerSeen) (call : Call) (d : CallerSeen) (disk before after : ℕ) : Type 0 where
  pub risen : HasRisen before after
  pub emptied : c.seat.emptied < d.seat.emptied
  pub note : Sent
  pub last : d.seat.last_emptied ≡ Some note
  pub of : note.of ≡ Some (c.process, call)
  pub number : note.note.number ≡ disk
  pub counted : note.note.disk.faults ≡ before
  pub state : KernelState
  pub left : d.seat.state ≡ Some state
  pub seen : DiskSeen
  pub home : bay_at state.memory.world.store.bays disk ≡ home seen
  pub count : seen.faults ≡ after

-- A device error is that of such a transfer.
abbrev pub ShowsError : CallerSeen → Call → CallerSeen → Reply → Type 0
ShowsError c call d (reply.Io disk before after) = HasFailed c call d disk before after
ShowsError c call d r = Unit {0}

-- WHO IS TOLD OF AN ENTRY: who waits for a change, but where it is of a load or a store, for which nobody waits; and where it ends a call of a file, all who
-- wait for that call.
pub record TellsDone (c : CallerSeen) (call : Call) (d : CallerSeen) (r : Reply) : Type 0 where
  pub change : IsAccess call ⊎ (c.seat.told < d.seat.told)
  pub file : c.seat.told_files + files_of call r ≤ d.seat.told_files

-- THE CALL IS DONE: exactly one entry of this process, call and reply was added, the caller has nothing in hand, and told of it.
pub record IsCallDone (c : CallerSeen) (call : Call) (d : CallerSeen) (r : Reply) : Type 0 where
  pub entry : (cleared : ℕ) × (d.seat.own ≡ c.seat.own ++ done_entry c.process call r cleared ∷ [])
  pub free : d.seat.note ≡ None
  pub error : ShowsError c call d r
  pub told : TellsDone c call d r

-- Another seat holds the call up in the state that the caller left last, in this turn.
pub record HasMet (c : CallerSeen) (call : Call) (d : CallerSeen) (h : Hold) : Type 0 where
  pub leaves : c.seat.leaves < d.seat.leaves
  pub state : KernelState
  pub left : d.seat.state ≡ Some state
  pub holds : MayHold state.memory state.calls c.process call h
  pub other : seat_in h ≢ c.seat.number
  pub free : d.seat.note ≡ None

-- A transfer of the caller for this call ended in this turn, and went well: the state that the caller left last has its disk home as it came back.
pub record HasMoved (c : CallerSeen) (call : Call) (d : CallerSeen) : Type 0 where
  pub emptied : c.seat.emptied < d.seat.emptied
  pub note : Sent
  pub last : d.seat.last_emptied ≡ Some note
  pub of : note.of ≡ Some (c.process, call)
  pub back : FlightSeen
  pub performed : IsPerformed note.note back
  pub well : back.outcome ≡ done
  pub state : KernelState
  pub left : d.seat.state ≡ Some state
  pub home : bay_at state.memory.world.store.bays back.number ≡ home back.disk
  pub free : d.seat.note ≡ None

-- WHY THERE IS NO REPLY.
abbrev pub HasCauseFor : CallerSeen → Call → CallerSeen → Why → Type 0
HasCauseFor c call d LockHeld = c.seat.refused < d.seat.refused
HasCauseFor c call d (PageBusy t) = HasMet c call d (hold.Page t)
HasCauseFor c call d (DiskOut t) = HasMet c call d (hold.Disk t)
HasCauseFor c call d (FileBusy t) = HasMet c call d (hold.File t)
HasCauseFor c call d Moved = HasMoved c call d

-- WHAT A TURN COMES TO.
abbrev pub IsTurn : CallerSeen → Call → CallerSeen → Turn → Type 0
IsTurn c call d (Done r) = IsCallDone c call d r
IsTurn c call d (Again why) = (d.seat.own ≡ c.seat.own) × IsForCall c.process call d.seat.note × HasCauseFor c call d why

-- THE BELL ON WHICH SOMEBODY RESTS who is held up so: that of leaves where another had the lock; of changes where a page or a disk is out, whose seat will tell of
-- it; of file calls where another seat is between two parts of one. After a transfer of its own it doesn't rest.
abbrev pub bell_for : Why → Option Bell
bell_for LockHeld = Some Leaves
bell_for (PageBusy t) = Some Changes
bell_for (DiskOut t) = Some Changes
bell_for (FileBusy t) = Some Files
bell_for Moved = None

-- Want of memory comes at a call alone that takes memory (Map, Unmap, Protect and Fork), and nothing was made; the caller told that its call is over.
pub record LacksMemory (c : CallerSeen) (call : Call) (d : CallerSeen) : Type 0 where
  pub takes : TakesMemory call
  pub none : d.seat.own ≡ c.seat.own
  pub free : d.seat.note ≡ None
  pub told : c.seat.told < d.seat.told

-- A caller that has this seat and process.
abbrev pub caller_at : SeatSeen → ℕ → CallerSeen
caller_at v p = record { seat = v; process = p }

-- Inside: what the first half of a turn comes to.
abbrev pub IsFirstHalf : {E : Type 0} → CallerSeen → Call → CallerSeen → Result (Option Turn) E → Type 0
IsFirstHalf c call d (Ok (Some turn)) = IsTurn c call d turn
IsFirstHalf c call d (Ok None) = (d.seat.own ≡ c.seat.own) × IsNoteFor c.process call d.seat.note
IsFirstHalf c call d (Err e) = LacksMemory c call d

-- Inside: the turn that a try makes, and the end of a transfer.
abbrev pub why_of : Hold → Why
why_of (hold.Page t) = PageBusy t
why_of (hold.Disk t) = DiskOut t
why_of (hold.File t) = FileBusy t

-- What a turn answers by what a try came to; none where the transfer is out now.
abbrev pub turn_of_try : {E : Type 0} → Result Tried E → Result (Option Turn) E
turn_of_try (Ok (tried.Done r)) = Ok (Some (Done r))
turn_of_try (Ok tried.Out) = Ok None
turn_of_try (Ok (tried.Busy h)) = Ok (Some (Again (why_of h)))
turn_of_try (Err e) = Err e

-- What a turn answers by the end of a transfer: its device error, or that it moved.
abbrev pub turn_of_end : Option Reply → Turn
turn_of_end (Some r) = Done r
turn_of_end None = Again Moved

-- What a turn answers by how the end of its transfer went.
abbrev pub turn_of_ended : Ended → Turn
turn_of_ended (ended.Failed disk before after) = Done (reply.Io disk before after)
turn_of_ended ended.Moved = Again Moved
turn_of_ended ended.Held = Again LockHeld

-- Inside: the reply that such a word, store or signal is.
abbrev pub reply_of : Quick → Reply
reply_of (quick.Word word) = reply.Word word
reply_of quick.Stored = reply.Done
reply_of (quick.Signal signal) = reply.Signal signal
reply_of quick.Later = reply.Done

-- Inside: what a call has come to: it is done, with this reply, or there is no entry yet.
abbrev pub HasComeTo : CallerSeen → Call → CallerSeen → Option Reply → Type 0
HasComeTo c call d (Some r) = IsCallDone c call d r
HasComeTo c call d None = (d.seat.own ≡ c.seat.own) × IsForCall c.process call d.seat.note

-- Inside: what one try of a load or a store comes to: it is done, or there is no entry yet.
abbrev pub quick_of : Answer → Quick
quick_of (answer.Word word) = quick.Word word
quick_of answer.Stored = quick.Stored
quick_of (answer.Signal signal) = quick.Signal signal
quick_of (answer.Need plan) = quick.Later
quick_of (answer.Busy hold) = quick.Later

-- What a quick try leaves: its entry with this reply, or, where it is for later, what Later says.
abbrev pub IsQuick : CallerSeen → Call → CallerSeen → Quick → Type 0
IsQuick c call d (quick.Word word) = IsCallDone c call d (reply.Word word)
IsQuick c call d quick.Stored = IsCallDone c call d reply.Done
IsQuick c call d (quick.Signal signal) = IsCallDone c call d (reply.Signal signal)
IsQuick c call d quick.Later = (d.seat.own ≡ c.seat.own) × IsForCall c.process call d.seat.note
