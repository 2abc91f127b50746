-- A lock and its seats as contracts see them, and what each call makes of a seat. Public clauses cite this.
use Rattle.std.specs.Prelude.{◌≡◌, ℕ, ◌+◌, ◌<◌, ◌≤◌, ◌==◌, Bool, true, false, List, [], length, slice_index_or, Option, Some, None, if◌then◌else◌}
use Rattle.std.specs.List.{filter}
use mathlib.Core.Option.{some}
use mathlib.Core.List.{IsPrefix}
use lib.ListN.{get_elem?}
use Rattle.atomic_table.specs.Seated.{TableId}
use Rattle.kernel_lock.specs.declared.board.SeatPart.{SeatPart}

-- A lock: which one it is, how many seats it has, and the state that it was started with.
pub record LockView (S : Type 0) : Type 0 where
  pub lock : TableId
  pub seats : ℕ
  pub opening : S

-- A seat: the lock that it is of, with that lock's opening and number of seats; its number; whether it is inside; the state that it entered with, while it is
-- inside, and else the one that it left last; its note; the entries that it made; the history that it has seen; how many of its tries were refused, and which
-- seat had the turn at the last of these; how many times it left; how many times it told of a change, and of a file's call that is over; how many of its leaves
-- emptied its note, and the note that the last such leave emptied.
pub record SeatView (S E N : Type 0) : Type 0 where
  pub lock : TableId
  pub opening : Option S
  pub seats : ℕ
  pub number : ℕ
  pub inside : Bool
  pub state : Option S
  pub note : Option N
  pub own : List E
  pub seen : List E
  pub refused : ℕ
  pub refused_by : Option ℕ
  pub leaves : ℕ
  pub told : ℕ
  pub told_files : ℕ
  pub emptied : ℕ
  pub last_emptied : Option N

-- What whoever closes has taken in: of which lock, and what is known of each seat.
pub record GatheredView (E N : Type 0) : Type 0 where
  pub lock : TableId
  pub parts : List (SeatPart E N)

-- The entries of one seat, in their order.
abbrev pub entries_by : {E : Type 0} → (E → ℕ) → ℕ → List E → List E
entries_by seat_of k es = filter (λ e. seat_of e == k) es

-- A note is emptied where there was one and there is none any more.
abbrev pub empties : {N : Type 0} → Option N → Option N → Bool
empties (Some _) None = true
empties (Some _) (Some _) = false
empties None _ = false

-- Each seat's number is that of one of the parts.
abbrev pub HasAll : {E N : Type 0} → ℕ → List (SeatPart E N) → Type 0
HasAll {E} {N} seats ps = (k : ℕ) → k < seats → (i : ℕ) × (p : SeatPart E N) × (get_elem? ps i ≡ some p) × (p.number ≡ k)

module _ {S E N : Type 0} where
  -- The seat is one of this lock's. Each seat of a lock has the lock's opening.
  abbrev pub IsSeatOf : LockView S → SeatView S E N → Type 0
  IsSeatOf l v = (v.lock ≡ l.lock) × (v.opening ≡ Some l.opening) × (v.seats ≡ l.seats)

  -- What is known of the seat.
  abbrev pub part_of : SeatView S E N → SeatPart E N
  part_of v = record { number = v.number; note = v.note; own = v.own; seen = v.seen }

  -- A seat that has been nowhere.
  abbrev pub newcomer : LockView S → ℕ → SeatView S E N
  newcomer l k = record {
    lock = l.lock;
    opening = Some l.opening;
    seats = l.seats;
    number = k;
    inside = false;
    state = None;
    note = None;
    own = [];
    seen = [];
    refused = 0;
    refused_by = None;
    leaves = 0;
    told = 0;
    told_files = 0;
    emptied = 0;
    last_emptied = None;
  }

  -- The seats of a row have been nowhere, and stand in the order of their numbers.
  abbrev pub AreNew : LockView S → List (SeatView S E N) → Type 0
  AreNew l vs = (k : ℕ) (d : SeatView S E N) → k < length vs → slice_index_or vs k d ≡ newcomer l k

  -- The seat is inside, with this state.
  abbrev pub after_enter : SeatView S E N → S → SeatView S E N
  after_enter v s = record v { inside = true; state = Some s }

  -- The seat told so many times of a change, and of a file's call.
  abbrev pub after_tells : ℕ → ℕ → SeatView S E N → SeatView S E N
  after_tells changes files v = record v { told = v.told + changes; told_files = v.told_files + files }

  -- One more of its tries was refused: the seat k had the turn.
  abbrev pub after_refusal : SeatView S E N → ℕ → SeatView S E N
  after_refusal v k = record v { refused = v.refused + 1; refused_by = Some k }

  -- The seat is the same but for its refused tries, which are no fewer.
  abbrev pub HasTried : SeatView S E N → SeatView S E N → Type 0
  HasTried v w = (n : ℕ) × (by : Option ℕ) × (v.refused ≤ n) × (w ≡ record v { refused = n; refused_by = by })

module _ {S E N : Type 0} (seat_of : E → ℕ) (history : S → List E) where
  -- The seat is outside and has left the state t and the note n: it has seen all of t's history, and the entries that this has of the seat are its own.
  abbrev pub after_leave : SeatView S E N → S → Option N → SeatView S E N
  after_leave v t n = record v {
    inside = false;
    state = Some t;
    note = n;
    own = entries_by seat_of v.number (history t);
    seen = history t;
    leaves = v.leaves + 1;
    emptied = if empties v.note n then v.emptied + 1 else v.emptied;
    last_emptied = if empties v.note n then v.note else v.last_emptied;
  }

  -- The state holds to what is known of a seat: its note is the seat's, the history begins with what the seat has seen, and it has of the seat's entries just those that the seat made.
  abbrev pub HoldsTo : List (Option N) → S → SeatPart E N → Type 0
  HoldsTo notes s p = (get_elem? notes p.number ≡ some p.note) × IsPrefix p.seen (history s) × (entries_by seat_of p.number (history s) ≡ p.own)

module _ {S E N : Type 0} (seat_of : E → ℕ) (history : S → List E) (fits : S → S → List (Option N) → Type 0) where
  -- The state fits the opening and the notes of all seats, and holds to what is known of one seat.
  pub record IsEntered (opening : S) (seats : ℕ) (p : SeatPart E N) (s : S) : Type 0 where
    pub notes : List (Option N)
    pub fitting : fits opening s notes
    pub whole : length notes ≡ seats
    pub holds : HoldsTo seat_of history notes s p

  -- The state fits the opening and the notes of all seats, and holds to what is known of each seat.
  pub record IsClosed (opening : S) (seats : ℕ) (ps : List (SeatPart E N)) (s : S) : Type 0 where
    pub notes : List (Option N)
    pub fitting : fits opening s notes
    pub whole : length notes ≡ seats
    pub holds : (i : ℕ) (p : SeatPart E N) → get_elem? ps i ≡ some p → HoldsTo seat_of history notes s p
