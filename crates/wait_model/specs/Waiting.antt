-- Seats that make calls, wait for each other, and are woken. Public clauses cite this.
use Rattle.std.specs.Prelude.{ℕ, Bool, true, false, not, List, [], get_or, set, replicate, ◌≡◌, ◌<◌, length}
use Rattle.std.specs.List.{list_all}
use Rattle.wait_model.specs.Bells.{BellName, is_same_bell, ByBell, by_bell, Duty}

-- How far `Bell::rest` has come: it compares the count with the number seen, announces by the word that somebody sleeps, compares again, parks, sleeps, and is waking, before it announces that others may sleep still.
pub data RestStage : Type 0 where
  comparing : RestStage
  announcing : RestStage
  comparing_again : RestStage
  parking : RestStage
  sleeping : RestStage
  waking : RestStage

-- Where a seat is, once it owes nothing: between two calls; at its end; waiting for a child, so many numbers behind the next seat, to end; on its way to a try of the lock; inside; with a transfer at its disk; or resting on a bell.
pub data Phase : Type 0 where
  idle : Phase
  gone : Phase
  waits : ℕ → Phase
  tries : Phase
  inside : Phase
  out : Phase
  rests : BellName → RestStage → Phase

-- What a seat is about. `quick` is the first try of a load or a store, or a move of the daemon's hand: it rests on no change. `turns` is a call by turns of no file; `file_turns` one of a file, a part of a read or a write or a Truncate; and `open_turns` one of a file whose call the seat has between two parts.
pub data Errand : Type 0 where
  quick : Errand
  turns : Errand
  file_turns : Errand
  open_turns : Errand

-- Whether a seat's errand is by turns: all but a quick one.
abbrev pub is_by_turns : Errand → Bool
is_by_turns quick = false
is_by_turns _ = true

-- Whether a seat's errand is a call of a file.
abbrev pub is_for_file : Errand → Bool
is_for_file file_turns = true
is_for_file open_turns = true
is_for_file _ = false

-- Whether a seat's errand is a call of a file that it has between two parts.
abbrev pub is_open : Errand → Bool
is_open open_turns = true
is_open _ = false

-- Whether a seat is inside the lock.
abbrev pub is_inside : Phase → Bool
is_inside inside = true
is_inside _ = false

-- Whether a seat sleeps on the bell.
abbrev pub sleeps_on : BellName → Phase → Bool
sleeps_on bell (rests other sleeping) = is_same_bell bell other
sleeps_on bell _ = false

-- A seat: what it owes the bells first; where it is then; what it is about; whether it has a transfer in hand; and which count of each bell it read last.
pub record WaitingSeat : Type 0 where
  pub duties : List Duty
  pub phase : Phase
  pub errand : Errand
  pub in_hand : Bool
  pub seen : ByBell ℕ

-- The seats by number; how often each bell rang; and each bell's word, true for 1.
pub record Waiting : Type 0 where
  pub seats : List WaitingSeat
  pub rings : ByBell ℕ
  pub asleep : ByBell Bool

-- A seat that owes nothing.
abbrev pub seat_at : Phase → Errand → Bool → ByBell ℕ → WaitingSeat
seat_at phase errand in_hand seen = record { duties = []; phase = phase; errand = errand; in_hand = in_hand; seen = seen }

-- A seat that owes this.
abbrev pub owing : List Duty → WaitingSeat → WaitingSeat
owing duties seat = record seat { duties = duties }

-- A count of 0 for each bell.
abbrev pub never_rang : ByBell ℕ
never_rang = by_bell 0 0 0

-- The seat of a number; past the last one that has ended.
abbrev pub seat_numbered : Waiting → ℕ → WaitingSeat
seat_numbered w i = get_or w.seats i (seat_at gone quick false never_rang)

-- The seat of a number is this one, and there is one of that number.
abbrev pub IsSeat : Waiting → ℕ → WaitingSeat → Type 0
IsSeat w i seat = (i < length w.seats) × (seat_numbered w i ≡ seat)

-- The same bells, with this seat in place of the one of a number.
abbrev pub with_seat : ℕ → WaitingSeat → Waiting → Waiting
with_seat i seat w = record w { seats = set w.seats i seat }

-- So many seats, all awake, none of which has begun.
abbrev pub all_awake : ℕ → Waiting
all_awake n = record { seats = replicate n (seat_at idle quick false never_rang); rings = never_rang; asleep = by_bell false false false }

-- Of no seat the test is true.
abbrev pub OfNone : (Phase → Bool) → Waiting → Type 0
OfNone test w = list_all (λ (seat : WaitingSeat). not (test seat.phase)) w.seats ≡ true
