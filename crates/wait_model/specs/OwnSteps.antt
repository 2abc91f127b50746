-- The steps of one seat that change no bell and no other seat, each named for what the function of the code does. Public clauses cite this.
use Rattle.std.specs.Prelude.{◌≡◌, ◌≢◌, ℕ, Bool, true, false, List, [], ◌∷◌, ◌++◌}
use Rattle.wait_model.specs.Bells.{BellName, leaves, changes, files, ByBell, with_bell, Duty, look, swap, wake, swap_for_all, ring, wake_one, ring_all}
use Rattle.wait_model.specs.Waiting.{comparing, announcing, comparing_again, parking, sleeping, waking, Phase, idle, gone, waits, tries, inside, out, rests, Errand, quick, turns, file_turns, open_turns, is_by_turns, is_for_file, is_open, is_inside, sleeps_on, WaitingSeat, Waiting, seat_at, owing, seat_numbered, OfNone}

-- With two bells whoever meets another seat's call of a file rests on `changes`. With three it passes its wake-up on and rests on `files`, which rings for all where a call of a file ends.
pub data Protocol : Type 0 where
  two_bells : Protocol
  three_bells : Protocol

-- A seat that has left the lock: it rings `leaves`, then owes this, and is there then.
abbrev pub left_at : List Duty → Phase → Errand → Bool → ByBell ℕ → WaitingSeat
left_at duties phase errand in_hand seen = owing (ring leaves ++ duties) (seat_at phase errand in_hand seen)

-- What a seat owes that ends a call of a file: to ring `changes`, and with three bells to ring
-- `files` for all.
abbrev pub told_of_file : Protocol → List Duty
told_of_file two_bells = ring changes
told_of_file three_bells = ring changes ++ ring_all files

-- What a seat owes that ends a call with this errand: to ring `changes`, and what a file's call
-- owes.
abbrev pub told_of_end : Protocol → Errand → List Duty
told_of_end p file_turns = told_of_file p
told_of_end p open_turns = told_of_file p
told_of_end p _ = ring changes

-- How a seat stands that leaves the lock since another seat has its file's call: what it owes the
-- bells, and the bell on which it rests.
abbrev pub left_for_file : Protocol → ByBell ℕ → WaitingSeat
left_for_file two_bells seen = left_at [] (rests changes comparing) file_turns false seen
left_for_file three_bells seen = left_at (wake_one changes) (rests files comparing) file_turns false seen

-- A step of one seat, from how it stands to how it stands, that changes no bell and no other seat.
pub data OwnStep (p : Protocol) (w : Waiting) : WaitingSeat → WaitingSeat → Type 0 where
  -- `call`, `hit`: a load or a store begins by a first try. `move_hand`: a hand of the clock begins to move.
  begins_hit : {v : ByBell ℕ} → OwnStep p w (seat_at idle quick false v) (seat_at tries quick false v)
  begins_move : {v : ByBell ℕ} → OwnStep p w (seat_at idle quick false v) (seat_at tries quick false v)
  -- `call_by_turns`, of no file and of a file.
  begins_turns : {v : ByBell ℕ} → OwnStep p w (seat_at idle quick false v) (seat_at tries turns false v)
  begins_file : {v : ByBell ℕ} → OwnStep p w (seat_at idle quick false v) (seat_at tries file_turns false v)
  -- Its last call, or its last move, is made; or it begins to wait for a child.
  ends : {v : ByBell ℕ} → OwnStep p w (seat_at idle quick false v) (seat_at gone quick false v)
  begins_wait : {n : ℕ} {v : ByBell ℕ} → OwnStep p w (seat_at idle quick false v) (seat_at (waits n) quick false v)
  -- `leaves`, `changes`, `files`: it reads a count before its try.
  reads : (bell : BellName) {e : Errand} {h : Bool} {v : ByBell ℕ} → OwnStep p w (seat_at tries e h v) (seat_at tries e h (with_bell bell (w.rings bell) v))
  -- `try_enter` gets the state; or another seat has it, and `turn_and_rest`, `end_and_rest` or `enter` rests, or `hit_at` answers Later. (After `access_at` the seat is where it was.)
  enters : {e : Errand} {h : Bool} {v : ByBell ℕ} → OfNone is_inside w → OwnStep p w (seat_at tries e h v) (seat_at inside e h v)
  is_refused : (k : ℕ) {e : Errand} {h : Bool} {v : ByBell ℕ} → (seat_numbered w k).phase ≡ inside → OwnStep p w (seat_at tries e h v) (seat_at (rests leaves comparing) e h v)
  is_refused_later : (k : ℕ) {v : ByBell ℕ} → (seat_numbered w k).phase ≡ inside → OwnStep p w (seat_at tries quick false v) (seat_at tries turns false v)
  -- `hit_at` is done, also by `access_and_leave`; or `hand_and_leave` begins no push.
  hits : {v : ByBell ℕ} → OwnStep p w (seat_at inside quick false v) (left_at [] idle quick false v)
  -- `access_and_leave` by turns is done, and `pass_on`; or is Busy, at the first try or by turns.
  accesses : {v : ByBell ℕ} → OwnStep p w (seat_at inside turns false v) (left_at (wake_one changes) idle quick false v)
  misses : {v : ByBell ℕ} → OwnStep p w (seat_at inside quick false v) (left_at [] tries turns false v)
  misses_again : {v : ByBell ℕ} → OwnStep p w (seat_at inside turns false v) (left_at [] tries turns false v)
  -- `access_and_leave`, `try_and_leave`, `hand_and_leave` begin a transfer; `access_and_leave` also at the first try. `perform` makes it.
  sends : {e : Errand} {v : ByBell ℕ} → OwnStep p w (seat_at inside e false v) (left_at [] out e true v)
  sends_first : {v : ByBell ℕ} → OwnStep p w (seat_at inside quick false v) (left_at [] out turns true v)
  performs : {e : Errand} {v : ByBell ℕ} → OwnStep p w (seat_at out e true v) (seat_at tries e true v)
  -- `try_and_leave` is done, or lacked memory: of no file; a part which doesn't end its call; and the end of a call of a file.
  ends_call : {v : ByBell ℕ} → OwnStep p w (seat_at inside turns false v) (left_at (ring changes) idle quick false v)
  ends_part : {e : Errand} {v : ByBell ℕ} → is_for_file e ≡ true → OwnStep p w (seat_at inside e false v) (left_at (ring changes) tries open_turns false v)
  ends_file_call : {e : Errand} {v : ByBell ℕ} → is_for_file e ≡ true → OwnStep p w (seat_at inside e false v) (left_at (told_of_file p) idle quick false v)
  -- `try_and_leave` is Busy: a page or a disk is out with a seat, or another seat has its file's call between two parts.
  meets_busy : (k : ℕ) {e : Errand} {v : ByBell ℕ} → is_by_turns e ≡ true → (seat_numbered w k).in_hand ≡ true → OwnStep p w (seat_at inside e false v) (left_at [] (rests changes comparing) e false v)
  meets_file_busy : (k : ℕ) {v : ByBell ℕ} → is_open (seat_numbered w k).errand ≡ true → OwnStep p w (seat_at inside file_turns false v) (left_for_file p v)
  -- `end_and_leave`: the call goes on; or it has failed, or the push was the daemon's.
  moves : {e : Errand} {v : ByBell ℕ} → is_by_turns e ≡ true → OwnStep p w (seat_at inside e true v) (left_at (ring changes) tries e false v)
  ends_flight : {e : Errand} {v : ByBell ℕ} → OwnStep p w (seat_at inside e true v) (left_at (told_of_end p e) idle quick false v)
  -- `Bell::rest` finds the count that was seen, before and behind its announcement; or sees that it rose.
  compares : (bell : BellName) {e : Errand} {h : Bool} {v : ByBell ℕ} → v bell ≡ w.rings bell → OwnStep p w (seat_at (rests bell comparing) e h v) (seat_at (rests bell announcing) e h v)
  compares_again : (bell : BellName) {e : Errand} {h : Bool} {v : ByBell ℕ} → v bell ≡ w.rings bell → OwnStep p w (seat_at (rests bell comparing_again) e h v) (seat_at (rests bell parking) e h v)
  sees_rise : (bell : BellName) {e : Errand} {h : Bool} {v : ByBell ℕ} → v bell ≢ w.rings bell → OwnStep p w (seat_at (rests bell comparing) e h v) (seat_at tries e h v)
  sees_rise_again : (bell : BellName) {e : Errand} {h : Bool} {v : ByBell ℕ} → v bell ≢ w.rings bell → OwnStep p w (seat_at (rests bell comparing_again) e h v) (seat_at tries e h v)
  -- `park` sleeps while the word is 1, and may wake early.
  parks : (bell : BellName) {e : Errand} {h : Bool} {v : ByBell ℕ} → w.asleep bell ≡ true → OwnStep p w (seat_at (rests bell parking) e h v) (seat_at (rests bell sleeping) e h v)
  parks_not : (bell : BellName) {e : Errand} {h : Bool} {v : ByBell ℕ} → w.asleep bell ≡ false → OwnStep p w (seat_at (rests bell parking) e h v) (seat_at (rests bell waking) e h v)
  wakes_early : (bell : BellName) {e : Errand} {h : Bool} {v : ByBell ℕ} → OwnStep p w (seat_at (rests bell sleeping) e h v) (seat_at (rests bell waking) e h v)
  -- `Bell::wake_one` finds 1, or 0 at its look or at its swap; and `ring_all` finds 0.
  looks : (bell : BellName) {ds : List Duty} (x : WaitingSeat) → w.asleep bell ≡ true → OwnStep p w (owing (look bell ∷ ds) x) (owing (swap bell ∷ ds) x)
  looks_in_vain : (bell : BellName) {ds : List Duty} (x : WaitingSeat) → w.asleep bell ≡ false → OwnStep p w (owing (look bell ∷ ds) x) (owing ds x)
  swaps_in_vain : (bell : BellName) {ds : List Duty} (x : WaitingSeat) → w.asleep bell ≡ false → OwnStep p w (owing (swap bell ∷ ds) x) (owing ds x)
  swaps_for_all_in_vain : (bell : BellName) {ds : List Duty} (x : WaitingSeat) → w.asleep bell ≡ false → OwnStep p w (owing (swap_for_all bell ∷ ds) x) (owing ds x)
  -- It wakes one, and nobody slept.
  wakes_none : (bell : BellName) {ds : List Duty} (x : WaitingSeat) → OfNone (sleeps_on bell) w → OwnStep p w (owing (wake bell ∷ ds) x) (owing ds x)
