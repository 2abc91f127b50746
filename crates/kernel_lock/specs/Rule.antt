-- The rule of the table under the lock, and what each step tells. Inside: no public clause cites this.
use Rattle.std.specs.Prelude.{◌≡◌, ◌≢◌, ℕ, ◌+◌, ◌<◌, ◌≤◌, ◌==◌, ltb, Bool, true, false, List, [], ◌∷◌, length, slice_index, Option, Some, None, if◌then◌else◌}
use mathlib.Core.Option.{some}
use mathlib.Core.List.{IsPrefix}
use lib.ListN.{get_elem?}
use Rattle.atomic_table.specs.Table.{State, Me, Step}
use Rattle.atomic_table.specs.declared.shared.Seat.{Seat}
use Rattle.atomic_table.specs.Seated.{TableId}
use Rattle.kernel_lock.specs.declared.board.View.{View}
use Rattle.kernel_lock.specs.declared.board.SeatPart.{SeatPart}
use Rattle.kernel_lock.specs.Seats.{SeatView, entries_by, empties, IsEntered}

-- Each element has the property.
abbrev pub Each : {A : Type 0} → (A → Type 0) → List A → Type 0
Each P [] = Unit {0}
Each P (x ∷ xs) = P x × Each P xs

-- The longer of two lists.
abbrev pub longer_list : {A : Type 0} → List A → List A → List A
longer_list xs ys = if ltb (length xs) (length ys) then ys else xs

-- The slots that a seat has: the one slot while it is inside, out of which it has taken the state.
abbrev pub hand : {S : Type 0} → Bool → List (ℕ × Option S)
hand true = (0, None) ∷ []
hand false = []

module _ {S E N : Type 0} where
  -- The dealer has nothing but the numbers from n on.
  abbrev pub dealer_at : S → ℕ → ℕ → View S E N
  dealer_at o seats n = record {
    opening = Some o;
    seats = seats;
    state = None;
    inside = false;
    seated = false;
    deals = true;
    number = n;
    note = None;
    own = [];
    others = [];
    seen = [];
    olds = [];
    refused = 0;
    refused_by = None;
    leaves = 0;
    told = 0;
    told_files = 0;
    emptied = 0;
    last_emptied = None;
  }

  -- A view that knows nothing, and that of a seat which is spent.
  abbrev pub blank_view : View S E N
  blank_view = record {
    opening = None;
    seats = 0;
    state = None;
    inside = false;
    seated = false;
    deals = false;
    number = 0;
    note = None;
    own = [];
    others = [];
    seen = [];
    olds = [];
    refused = 0;
    refused_by = None;
    leaves = 0;
    told = 0;
    told_files = 0;
    emptied = 0;
    last_emptied = None;
  }

  -- A courier has a copy of what a seat has seen.
  abbrev pub courier : View S E N → View S E N
  courier v = record {
    opening = v.opening;
    seats = v.seats;
    state = None;
    inside = false;
    seated = false;
    deals = false;
    number = 0;
    note = None;
    own = [];
    others = [];
    seen = v.seen;
    olds = [];
    refused = 0;
    refused_by = None;
    leaves = 0;
    told = 0;
    told_files = 0;
    emptied = 0;
    last_emptied = None;
  }

  -- A new seat with the dealer's next number.
  abbrev pub dealt_seat : View S E N → View S E N
  dealt_seat v = record {
    opening = v.opening;
    seats = v.seats;
    state = None;
    inside = false;
    seated = true;
    deals = false;
    number = v.number;
    note = None;
    own = [];
    others = [];
    seen = [];
    olds = [];
    refused = 0;
    refused_by = None;
    leaves = 0;
    told = 0;
    told_files = 0;
    emptied = 0;
    last_emptied = None;
  }

  abbrev pub dealer_after : View S E N → View S E N
  dealer_after v = record v { number = v.number + 1 }

  abbrev pub longer_seen : View S E N → View S E N → View S E N
  longer_seen v w = record v { seen = longer_list v.seen w.seen; olds = v.seen ∷ w.seen ∷ v.olds }

  abbrev pub known_of : View S E N → SeatPart E N
  known_of v = record { number = v.number; note = v.note; own = v.own; seen = v.seen }

  -- Whoever closes keeps what is known of the seat that it takes in.
  abbrev pub with_known_seat : View S E N → View S E N → View S E N
  with_known_seat v w = record v { others = known_of w ∷ v.others }

  -- Whoever closes knows nothing besides.
  abbrev pub gatherer_of : List (SeatPart E N) → View S E N
  gatherer_of ps = record blank_view { others = ps }

  abbrev pub view_inside : View S E N → S → View S E N
  view_inside v s = record v { inside = true; state = Some s }

  abbrev pub with_refused_try : View S E N → ℕ → View S E N
  with_refused_try v k = record v { refused = v.refused + 1; refused_by = Some k }

  abbrev pub view_outside : View S E N → View S E N
  view_outside v = record v { inside = false }

  -- It rang the bell of the word w once more: that of leaves, of changes, or of file calls.
  abbrev pub view_rung : ℕ → View S E N → View S E N
  view_rung w v = record v {
    leaves = if w == 2 then v.leaves + 1 else v.leaves;
    told = if w == 3 then v.told + 1 else v.told;
    told_files = if w == 4 then v.told_files + 1 else v.told_files;
  }

  -- A seat of the lock as contracts see it.
  abbrev pub seat_view : TableId → View S E N → SeatView S E N
  seat_view l v = record {
    lock = l;
    opening = v.opening;
    seats = v.seats;
    number = v.number;
    inside = v.inside;
    state = v.state;
    note = v.note;
    own = v.own;
    seen = v.seen;
    refused = v.refused;
    refused_by = v.refused_by;
    leaves = v.leaves;
    told = v.told;
    told_files = v.told_files;
    emptied = v.emptied;
    last_emptied = v.last_emptied;
  }

  -- A seat of the table is a seat of the lock with this number.
  abbrev pub IsPlain : Seat (Option S) (View S E N) → ℕ → Type 0
  IsPlain p n = (p.me.0.seated ≡ true) × (p.me.0.deals ≡ false) × (p.me.0.others ≡ []) × (p.me.0.number ≡ n) × (p.me.1 ≡ hand p.me.0.inside)

module _ {S E N : Type 0} (seat_of : E → ℕ) (history : S → List E) where
  -- The view after the state t and the note n are made known. The seat is still inside.
  abbrev pub view_made_known : View S E N → S → Option N → View S E N
  view_made_known v t n = record v {
    state = Some t;
    note = n;
    own = entries_by seat_of v.number (history t);
    seen = history t;
    emptied = if empties v.note n then v.emptied + 1 else v.emptied;
    last_emptied = if empties v.note n then v.note else v.last_emptied;
  }

  -- What the rule says of one seat's number, its note and its own entries. The view j has this number, and no other has it.
  abbrev pub HasPart : S → List (Option N) → (ℕ → ℕ) → ℕ → ℕ → Option N → List E → Type 0
  HasPart core notes owner j k n own = (get_elem? notes k ≡ some n) × (entries_by seat_of k (history core) ≡ own) × (owner k ≡ j)

  -- What the view j may know, where core is the state that all agree on.
  pub record Knows (opening : S) (seats : ℕ) (core : S) (notes : List (Option N)) (owner : ℕ → ℕ) (turn holder j : ℕ) (v : View S E N) : Type 0 where
    pub opened : (x : S) → v.opening ≡ Some x → (x ≡ opening) × (v.seats ≡ seats)
    pub begun : IsPrefix v.seen (history core)
    pub begun_olds : Each (λ h. IsPrefix h (history core)) v.olds
    pub mine : v.seated ≡ true → HasPart core notes owner j v.number v.note v.own
    pub told : v.seated ≡ true → entries_by seat_of v.number v.seen ≡ v.own
    pub theirs : Each (λ (p : SeatPart E N). HasPart core notes owner j p.number p.note p.own × IsPrefix p.seen (history core)) v.others
    pub fresh : v.deals ≡ true → (k : ℕ) → v.number ≤ k → k < length notes → HasPart core notes owner j k None []
    pub within : v.inside ≡ true → (v.seated ≡ true) × (turn ≡ v.number + 1) × (holder ≡ j) × (v.state ≡ Some core)

module _ {S E N : Type 0} (seat_of : E → ℕ) (history : S → List E) (fits : S → S → List (Option N) → Type 0) where
  -- There is one state, which fits the opening and the notes of all seats. Word 0 is 0 while the state lies in the slot, and else names the seat that has the
  -- turn, plus 1. Word 1 is the length of the history. Words 2, 3 and 4 are the numbers of the bells, of which nothing is known.
  pub record Lock (opening : S) (seats : ℕ) (s : State (Option S) (View S E N)) : Type 0 where
    pub core : S
    pub notes : List (Option N)
    pub owner : ℕ → ℕ
    pub holder : ℕ
    pub five : length s.words ≡ 5
    pub one : length s.homes ≡ 1
    pub fitting : fits opening core notes
    pub sized : length notes ≡ seats
    pub counted : slice_index s.words 1 ≡ length (history core)
    pub home : slice_index s.words 0 ≡ 0 → s.homes ≡ some (Some core) ∷ []
    pub held : slice_index s.words 0 ≢ 0 → (v : View S E N) × (get_elem? s.views holder ≡ some v) × (v.inside ≡ true)
    pub each : (j : ℕ) (v : View S E N) → get_elem? s.views j ≡ some v → Knows seat_of history opening seats core notes owner (slice_index s.words 0) holder j v

  -- Taking the turn: where nobody had it, the seat is inside, has the slot with the state in it, and the state is as is promised to whoever enters. Otherwise
  -- the turn word named another seat, and one more try is refused.
  abbrev pub TakesTurn : Step (Option S) → Me (Option S) (View S E N) → ℕ → Me (Option S) (View S E N) → Type 0
  TakesTurn st m r m' =
      (r ≡ 0 → (s : S) × (m' ≡ (view_inside m.0 s, (0, Some s) ∷ [])) × ((o : S) → m.0.opening ≡ Some o → IsEntered seat_of history fits o m.0.seats (known_of m.0) s))
      × (r ≢ 0 → (k : ℕ) × (r ≡ k + 1) × (k ≢ m.0.number) × ((o : S) → m.0.opening ≡ Some o → k < m.0.seats) × (m' ≡ (with_refused_try m.0 k, [])))

module _ {S E N : Type 0} where
  -- Making known: the view has the state and the note that are said.
  abbrev pub MakesKnown : (E → ℕ) → (S → List E) → Option S → Option N → Step (Option S) → Me (Option S) (View S E N) → ℕ → Me (Option S) (View S E N) → Type 0
  MakesKnown seat_of history said n st m r m' = (t : S) → said ≡ Some t → m' ≡ (view_made_known seat_of history m.0 t n, m.1)

  -- Releasing: the seat is outside and has no slot.
  abbrev pub ReleasesTurn : Step (Option S) → Me (Option S) (View S E N) → ℕ → Me (Option S) (View S E N) → Type 0
  ReleasesTurn st m r m' = m' ≡ (view_outside m.0, [])

  -- Ringing the bell of a word.
  abbrev pub RingsBell : Step (Option S) → Me (Option S) (View S E N) → ℕ → Me (Option S) (View S E N) → Type 0
  RingsBell st m r m' = m' ≡ (view_rung st.word m.0, m.1)

  -- Looking: a history as long as the word says begins with what the seat had seen and with each old one that a join left it. What it has seen has of its entries just those that it made.
  abbrev pub LooksAtLength : (E → ℕ) → Step (Option S) → Me (Option S) (View S E N) → ℕ → Me (Option S) (View S E N) → Type 0
  LooksAtLength seat_of st m r m' = (h : List E) × (length h ≡ r) × IsPrefix m.0.seen h × Each (λ o. IsPrefix o h) m.0.olds
      × (m' ≡ (record m.0 { olds = [] }, m.1)) × (m.0.seated ≡ true → entries_by seat_of m.0.number m.0.seen ≡ m.0.own)

  -- Sitting down: a new seat that knows nothing.
  abbrev pub SitsDown : Step (Option S) → Me (Option S) (View S E N) → ℕ → Me (Option S) (View S E N) → Type 0
  SitsDown st m r m' = m' ≡ (blank_view, [])
