-- The steps of all seats, and what they lead to. Public clauses cite this.
use Rattle.std.specs.Prelude.{◌≡◌, ℕ, ◌+◌, Bool, true, false, List, ◌∷◌, map, if◌then◌else◌}
use Rattle.wait_model.specs.Bells.{BellName, ByBell, with_bell, Duty, raise, look, swap, wake, swap_for_all, wake_all}
use Rattle.wait_model.specs.Waiting.{announcing, comparing_again, sleeping, waking, idle, gone, waits, tries, rests, Errand, quick, WaitingSeat, Waiting, seat_at, owing, seat_numbered, IsSeat, with_seat, sleeps_on}
use Rattle.wait_model.specs.OwnSteps.{Protocol, OwnStep}

-- The same seats and words, the bell's count one more.
abbrev pub with_ring : BellName → Waiting → Waiting
with_ring bell w = record w { rings = with_bell bell (w.rings bell + 1) w.rings }

-- The same seats and counts, the bell's word set to this.
abbrev pub with_word : BellName → Bool → Waiting → Waiting
with_word bell word w = record w { asleep = with_bell bell word w.asleep }

-- The seat, waking if it sleeps on the bell.
abbrev pub seat_woken : BellName → WaitingSeat → WaitingSeat
seat_woken bell x = record x { phase = if sleeps_on bell x.phase then rests bell waking else x.phase }

-- The same seats and bells, whoever sleeps on the bell waking.
abbrev pub with_all_woken : BellName → Waiting → Waiting
with_all_woken bell w = record w { seats = map (seat_woken bell) w.seats }

-- One step of one seat.
pub data WaitStep (p : Protocol) (w : Waiting) : Waiting → Type 0 where
  own : (i : ℕ) {x y : WaitingSeat} → IsSeat w i x → OwnStep p w x y → WaitStep p w (with_seat i y w)
  -- The child that it waits for has ended.
  child_ends : (i n : ℕ) {v : ByBell ℕ} → IsSeat w i (seat_at (waits n) quick false v) → (seat_numbered w (i + 1 + n)).phase ≡ gone → WaitStep p w (with_seat i (seat_at idle quick false v) w)
  -- `Bell::rest` sets the word, before it compares again and as it is awake again.
  announces : (i : ℕ) (bell : BellName) {e : Errand} {h : Bool} {v : ByBell ℕ} → IsSeat w i (seat_at (rests bell announcing) e h v) → WaitStep p w
      (with_word bell true (with_seat i (seat_at (rests bell comparing_again) e h v) w))
  announces_again : (i : ℕ) (bell : BellName) {e : Errand} {h : Bool} {v : ByBell ℕ} → IsSeat w i (seat_at (rests bell waking) e h v) → WaitStep p w
      (with_word bell true (with_seat i (seat_at tries e h v) w))
  -- `Bell::ring` and `Bell::ring_all` raise the count; and what they do where the word is 1.
  raises : (i : ℕ) (bell : BellName) {ds : List Duty} (x : WaitingSeat) → IsSeat w i (owing (raise bell ∷ look bell ∷ ds) x) → WaitStep p w (with_ring bell (with_seat i (owing (look bell ∷ ds) x) w))
  raises_for_all : (i : ℕ) (bell : BellName) {ds : List Duty} (x : WaitingSeat) → IsSeat w i (owing (raise bell ∷ swap_for_all bell ∷ ds) x) → WaitStep p w
      (with_ring bell (with_seat i (owing (swap_for_all bell ∷ ds) x) w))
  swaps : (i : ℕ) (bell : BellName) {ds : List Duty} (x : WaitingSeat) → IsSeat w i (owing (swap bell ∷ ds) x) → w.asleep bell ≡ true → WaitStep p w
      (with_word bell false (with_seat i (owing (wake bell ∷ ds) x) w))
  swaps_for_all : (i : ℕ) (bell : BellName) {ds : List Duty} (x : WaitingSeat) → IsSeat w i (owing (swap_for_all bell ∷ ds) x) → w.asleep bell ≡ true → WaitStep p w
      (with_word bell false (with_seat i (owing (wake_all bell ∷ ds) x) w))
  wakes : (i k : ℕ) (bell : BellName) {ds : List Duty} (x : WaitingSeat) {e : Errand} {h : Bool} {v : ByBell ℕ} → IsSeat w i (owing (wake bell ∷ ds) x) → IsSeat w k
      (seat_at (rests bell sleeping) e h v) → WaitStep p w (with_seat i (owing ds x) (with_seat k (seat_at (rests bell waking) e h v) w))
  wakes_all : (i : ℕ) (bell : BellName) {ds : List Duty} (x : WaitingSeat) → IsSeat w i (owing (wake_all bell ∷ ds) x) → WaitStep p w (with_all_woken bell (with_seat i (owing ds x) w))

-- Any number of steps, one behind the other.
pub data WaitSteps (p : Protocol) : Waiting → Waiting → Type 0 where
  none : {w : Waiting} → WaitSteps p w w
  ◌then◌ : {w t u : Waiting} → WaitStep p w t → WaitSteps p t u → WaitSteps p w u

infixr 4 ◌then◌
