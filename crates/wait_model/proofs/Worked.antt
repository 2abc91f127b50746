-- How two bells let somebody sleep for good: a worked list of acts, which are tried step by step.
use Rattle.std.proofs.Common.{◌≡◌, ◌≢◌, ◌⊎◌, inl, inr, ℕ, zero, suc, ◌<◌, Bool, true, false, not, ◌&&◌, List, [], ◌∷◌, length, get_or, Option, Some, None, refl, ap, subst, arith}
use Rattle.std.specs.List.{list_all}
use Rattle.std.proofs.lemmas.Bool.{and_parts}
use Rattle.wait_model.specs.Bells.{BellName, changes, is_same_bell, ByBell, Duty, raise, look, swap, wake}
use Rattle.wait_model.specs.Waiting.{comparing, announcing, comparing_again, parking, sleeping, waking, Phase, idle, gone, tries, inside, out, rests, Errand, quick, turns, file_turns, is_by_turns, is_for_file, is_open, is_inside, WaitingSeat, Waiting, seat_at, owing, seat_numbered, IsSeat, never_rang, sleeps_on, all_awake}
use Rattle.wait_model.specs.OwnSteps as steps
use Rattle.wait_model.specs.OwnSteps.{Protocol, two_bells, OwnStep}
use Rattle.wait_model.specs.Steps as machine
use Rattle.wait_model.specs.Steps.{WaitStep, own, WaitSteps, none, ◌then◌}
use Rattle.wait_model.proofs.Tests.{same_bell}
use Rattle.wait_model.specs.WaitLaws.{IsUp, SomebodySlept}

-- What a seat does next. What it owes a bell, and how a rest goes on, is told by where it is; of a wake-up it is told whom it wakes.
data Act : Type 0 where
  begins_turns : Act
  begins_file : Act
  ends : Act
  reads_changes : Act
  enters : Act
  sends : Act
  performs : Act
  accesses : Act
  moves : Act
  ends_call : Act
  ends_part : Act
  meets_busy : ℕ → Act
  meets_file_busy : ℕ → Act
  owes : Act
  wakes : ℕ → Act
  rests_on : Act

abbrev Next : Waiting → Type 0
Next w = Option ((t : Waiting) × WaitStep two_bells w t)

-- whether a test is true
abbrev tested : {A : Type 0} (b : Bool) → (b ≡ true → Option A) → (b ≡ false → Option A) → Option A
tested true yes_then no_then = yes_then refl
tested false yes_then no_then = no_then refl

abbrev is_same : ℕ → ℕ → Bool
is_same zero zero = true
is_same (suc m) (suc n) = is_same m n
is_same _ _ = false

same : (m n : ℕ) → is_same m n ≡ true → m ≡ n
same zero zero h = refl
same (suc m) (suc n) h = ap suc (same m n h)
same zero (suc n) h = absurd (cc)
same (suc m) zero h = absurd (cc)

abbrev is_below : ℕ → ℕ → Bool
is_below m zero = false
is_below zero (suc n) = true
is_below (suc m) (suc n) = is_below m n

below : (m n : ℕ) → is_below m n ≡ true → m < n
below m zero h = absurd (cc)
below zero (suc n) h = omega arith
below (suc m) (suc n) h = let k = below m n h in omega (arith, k)

raised : (w : Waiting) (i : ℕ) (b c : BellName) (ds : List Duty) (x : WaitingSeat) → is_same_bell c b ≡ true → seat_numbered w i ≡ owing (raise b ∷ look c ∷ ds) x
    → seat_numbered w i ≡ owing (raise b ∷ look b ∷ ds) x
raised w i b c ds x one is = subst (λ d. seat_numbered w i ≡ owing (raise b ∷ look d ∷ ds) x) (same_bell c b one) is

slept_on : (w : Waiting) (k : ℕ) (b c : BellName) (e : Errand) (h : Bool) (v : ByBell ℕ) → is_same_bell c b ≡ true → seat_numbered w k ≡ seat_at (rests c sleeping) e h v
    → seat_numbered w k ≡ seat_at (rests b sleeping) e h v
slept_on w k b c e h v one is = subst (λ d. seat_numbered w k ≡ seat_at (rests d sleeping) e h v) (same_bell c b one) is

module _ (w : Waiting) (i : ℕ) (lt : i < length w.seats) where
  -- the seat, by its parts
  abbrev IsMade : List Duty → Phase → Errand → Bool → ByBell ℕ → Type 0
  IsMade ds ph e h v = seat_numbered w i ≡ record { duties = ds; phase = ph; errand = e; in_hand = h; seen = v }

  abbrev Tries : Type 0
  Tries = (ds : List Duty) (ph : Phase) (e : Errand) (h : Bool) (v : ByBell ℕ) → IsMade ds ph e h v → Next w

  abbrev try_turns : Tries
  try_turns [] idle quick false v is = Some (_, own i (lt, is) steps.begins_turns)
  try_turns _ _ _ _ _ _ = None

  abbrev try_file : Tries
  try_file [] idle quick false v is = Some (_, own i (lt, is) steps.begins_file)
  try_file _ _ _ _ _ _ = None

  abbrev try_end : Tries
  try_end [] idle quick false v is = Some (_, own i (lt, is) steps.ends)
  try_end _ _ _ _ _ _ = None

  abbrev try_read : Tries
  try_read [] tries e h v is = Some (_, own i (lt, is) (steps.reads changes))
  try_read _ _ _ _ _ _ = None

  abbrev try_enter : Tries
  try_enter [] tries e h v is = tested (list_all (λ (x : WaitingSeat). not (is_inside x.phase)) w.seats) (λ free. Some (_, own i (lt, is) (steps.enters free))) (λ held. None)
  try_enter _ _ _ _ _ _ = None

  abbrev try_send : Tries
  try_send [] inside e false v is = Some (_, own i (lt, is) steps.sends)
  try_send _ _ _ _ _ _ = None

  abbrev try_perform : Tries
  try_perform [] out e true v is = Some (_, own i (lt, is) steps.performs)
  try_perform _ _ _ _ _ _ = None

  abbrev try_access : Tries
  try_access [] inside turns false v is = Some (_, own i (lt, is) steps.accesses)
  try_access _ _ _ _ _ _ = None

  abbrev try_move : Tries
  try_move [] inside e true v is = tested (is_by_turns e) (λ turning. Some (_, own i (lt, is) (steps.moves turning))) (λ no_turn. None)
  try_move _ _ _ _ _ _ = None

  abbrev try_end_call : Tries
  try_end_call [] inside turns false v is = Some (_, own i (lt, is) steps.ends_call)
  try_end_call _ _ _ _ _ _ = None

  abbrev try_end_part : Tries
  try_end_part [] inside e false v is = tested (is_for_file e) (λ file. Some (_, own i (lt, is) (steps.ends_part file))) (λ no_file. None)
  try_end_part _ _ _ _ _ _ = None

  abbrev try_busy : ℕ → Tries
  try_busy k [] inside e false v is = tested (is_by_turns e) (λ turning. tested (seat_numbered w k).in_hand (λ held. Some (_, own i (lt, is) (steps.meets_busy k turning held)))
      (λ free. None)) (λ no_turn. None)
  try_busy k _ _ _ _ _ _ = None

  abbrev try_file_busy : ℕ → Tries
  try_file_busy k [] inside file_turns false v is = tested (is_open (seat_numbered w k).errand) (λ held. Some (_, own i (lt, is) (steps.meets_file_busy k held))) (λ free. None)
  try_file_busy k _ _ _ _ _ _ = None

  abbrev try_owed : Tries
  try_owed (raise b ∷ look c ∷ ds) ph e h v is = tested (is_same_bell c b) (λ one. Some (_, machine.raises i b (seat_at ph e h v) (lt, raised w i b c ds (seat_at ph e h v) one is))) (λ other. None)
  try_owed (look b ∷ ds) ph e h v is = tested (w.asleep b) (λ on. Some (_, own i (lt, is) (steps.looks b (seat_at ph e h v) on)))
      (λ off. Some (_, own i (lt, is) (steps.looks_in_vain b (seat_at ph e h v) off)))
  try_owed (swap b ∷ ds) ph e h v is = tested (w.asleep b) (λ on. Some (_, machine.swaps i b (seat_at ph e h v) (lt, is) on)) (λ off. None)
  try_owed _ _ _ _ _ _ = None

  abbrev try_wake : (k : ℕ) → (b : BellName) (ds : List Duty) (x : WaitingSeat) → IsSeat w i (owing (wake b ∷ ds) x) → k < length w.seats → (es : List Duty) (ph : Phase) (e : Errand)
      (h : Bool) (v : ByBell ℕ) → seat_numbered w k ≡ record { duties = es; phase = ph; errand = e; in_hand = h; seen = v } → Next w
  try_wake k b ds x here ltk [] (rests c sleeping) e h v is = tested (is_same_bell c b) (λ one. Some (_, machine.wakes i k b x here (ltk, slept_on w k b c e h v one is))) (λ other. None)
  try_wake k b ds x here ltk _ _ _ _ _ _ = None

  abbrev try_wakes : ℕ → Tries
  try_wakes k (wake b ∷ ds) ph e h v is = tested (is_below k (length w.seats))
      (λ there. try_wake k b ds (seat_at ph e h v) (lt, is) (below k (length w.seats) there) (seat_numbered w k).duties (seat_numbered w k).phase (seat_numbered w k).errand
      (seat_numbered w k).in_hand (seat_numbered w k).seen refl) (λ past. None)
  try_wakes k _ _ _ _ _ _ = None

  abbrev try_rest : Tries
  try_rest [] (rests b comparing) e h v is = tested (is_same (v b) (w.rings b)) (λ one. Some (_, own i (lt, is) (steps.compares b (same (v b) (w.rings b) one)))) (λ other. None)
  try_rest [] (rests b announcing) e h v is = Some (_, machine.announces i b (lt, is))
  try_rest [] (rests b comparing_again) e h v is = tested (is_same (v b) (w.rings b)) (λ one. Some (_, own i (lt, is) (steps.compares_again b (same (v b) (w.rings b) one)))) (λ other. None)
  try_rest [] (rests b parking) e h v is = tested (w.asleep b) (λ on. Some (_, own i (lt, is) (steps.parks b on))) (λ off. None)
  try_rest [] (rests b waking) e h v is = Some (_, machine.announces_again i b (lt, is))
  try_rest _ _ _ _ _ _ = None

  abbrev try_act : Act → Tries
  try_act begins_turns = try_turns
  try_act begins_file = try_file
  try_act ends = try_end
  try_act reads_changes = try_read
  try_act enters = try_enter
  try_act sends = try_send
  try_act performs = try_perform
  try_act accesses = try_access
  try_act moves = try_move
  try_act ends_call = try_end_call
  try_act ends_part = try_end_part
  try_act (meets_busy k) = try_busy k
  try_act (meets_file_busy k) = try_file_busy k
  try_act owes = try_owed
  try_act (wakes k) = try_wakes k
  try_act rests_on = try_rest

abbrev next_of : (w : Waiting) → ℕ × Act → Next w
next_of w a = let z = seat_numbered w a.0 in tested (is_below a.0 (length w.seats))
    (λ there. try_act w a.0 (below a.0 (length w.seats) there) a.1 z.duties z.phase z.errand z.in_hand z.seen refl) (λ past. None)

abbrev Led : Waiting → Type 0
Led w = Option ((t : Waiting) × WaitSteps two_bells w t)

abbrev one_more : {w t : Waiting} → WaitStep two_bells w t → Led t → Led w
one_more step None = None
one_more step (Some more) = Some (more.0, step then more.1)

abbrev from_next : {w : Waiting} → Next w → ((t : Waiting) → Led t) → Led w
from_next None more = None
from_next (Some t) more = one_more t.1 (more t.0)

abbrev led : List (ℕ × Act) → (w : Waiting) → Led w
led [] w = Some (w, none)
led (a ∷ acts) w = from_next (next_of w a) (led acts)

abbrev worked : List (ℕ × Act)
worked =
    -- Seat 2 makes a load, and its page's transfer goes to the disk.
    (2, begins_turns) ∷ (2, enters) ∷ (2, sends) ∷ (2, owes) ∷ (2, owes) ∷
    -- Seat 0 makes the first of two parts of a read.
    (0, begins_file) ∷ (0, enters) ∷ (0, ends_part) ∷ (0, owes) ∷ (0, owes) ∷ (0, owes) ∷ (0, owes) ∷
    -- Seat 1 wants to read the same file, meets seat 0's call, and sleeps on `changes`.
    (1, begins_file) ∷ (1, reads_changes) ∷ (1, enters) ∷ (1, meets_file_busy 0) ∷ (1, owes) ∷ (1, owes) ∷ (1, rests_on) ∷ (1, rests_on) ∷ (1, rests_on) ∷ (1, rests_on) ∷
    -- Seat 0 wants a page for its second part, meets seat 2's transfer, and sleeps on `changes`.
    (0, reads_changes) ∷ (0, enters) ∷ (0, meets_busy 2) ∷ (0, owes) ∷ (0, owes) ∷ (0, rests_on) ∷ (0, rests_on) ∷ (0, rests_on) ∷ (0, rests_on) ∷
    -- Seat 2's transfer ends. It tells, and wakes seat 1.
    (2, performs) ∷ (2, enters) ∷ (2, moves) ∷ (2, owes) ∷ (2, owes) ∷ (2, owes) ∷ (2, owes) ∷ (2, owes) ∷ (2, wakes 1) ∷
    -- Seat 1 meets seat 0's call again, and sleeps again.
    (1, rests_on) ∷ (1, reads_changes) ∷ (1, enters) ∷ (1, meets_file_busy 0) ∷ (1, owes) ∷ (1, owes) ∷ (1, rests_on) ∷ (1, rests_on) ∷ (1, rests_on) ∷ (1, rests_on) ∷
    -- Seat 2's load is done. It passes its wake-up on, to seat 1, which sleeps again.
    (2, enters) ∷ (2, accesses) ∷ (2, owes) ∷ (2, owes) ∷ (2, owes) ∷ (2, owes) ∷ (2, wakes 1) ∷ (1, rests_on) ∷ (1, reads_changes) ∷ (1, enters) ∷ (1, meets_file_busy 0) ∷ (1, owes) ∷
    (1, owes) ∷ (1, rests_on) ∷ (1, rests_on) ∷ (1, rests_on) ∷ (1, rests_on) ∷
    -- Seat 2 makes its Exit, tells, and wakes seat 1, which sleeps again. Seat 0's disk is home, and nobody is left to wake seat 0.
    (2, begins_turns) ∷ (2, enters) ∷ (2, ends_call) ∷ (2, owes) ∷ (2, owes) ∷ (2, owes) ∷ (2, owes) ∷ (2, owes) ∷ (2, wakes 1) ∷ (2, ends) ∷ (1, rests_on) ∷ (1, reads_changes) ∷
    (1, enters) ∷ (1, meets_file_busy 0) ∷ (1, owes) ∷ (1, owes) ∷ (1, rests_on) ∷ (1, rests_on) ∷ (1, rests_on) ∷ (1, rests_on) ∷
    []

-- it sleeps, or has ended
abbrev is_still : List Duty → Phase → Bool
is_still [] gone = true
is_still [] (rests b sleeping) = true
is_still _ _ = false

abbrev gone_seat : WaitingSeat
gone_seat = seat_at gone quick false never_rang

each_still : (xs : List WaitingSeat) → list_all (λ (x : WaitingSeat). is_still x.duties x.phase) xs ≡ true → (j : ℕ) → is_still (get_or xs j gone_seat).duties (get_or xs j gone_seat).phase ≡ true
each_still [] all j = refl
each_still (x ∷ xs) all zero = (and_parts (is_still x.duties x.phase) _ all).0
each_still (x ∷ xs) all (suc j) = each_still xs (and_parts (is_still x.duties x.phase) _ all).1 j

not_up : (w : Waiting) (j : ℕ) (ds : List Duty) (ph : Phase) → is_still ds ph ≡ true → ((ds ≢ []) ⊎ IsUp w j ph) ⊎ (ph ≡ out) → ⊥
not_up w j [] gone h (inl (inl some)) = some refl
not_up w j [] gone h (inl (inr up)) = up
not_up w j [] gone h (inr e) = absurd (cc)
not_up w j [] (rests b sleeping) h (inl (inl some)) = some refl
not_up w j [] (rests b sleeping) h (inl (inr up)) = up
not_up w j [] (rests b sleeping) h (inr e) = absurd (cc)
not_up w j ds ph h up = absurd (cc)

abbrev has_slept : Waiting → Bool
has_slept w = list_all (λ (x : WaitingSeat). is_still x.duties x.phase) w.seats && sleeps_on changes (seat_numbered w 0).phase

slept_there : (w : Waiting) → WaitSteps two_bells (all_awake 3) w → has_slept w ≡ true → SomebodySlept
slept_there w steps h = record {
  w = w;
  steps = steps;
  waits = λ ended. let e = (and_parts (list_all (λ (x : WaitingSeat). is_still x.duties x.phase) w.seats) (sleeps_on changes (seat_numbered w 0).phase) h).1 in absurd
      (cc (subst (λ ph. sleeps_on changes ph ≡ true) ended e));
  nobody = λ j. not_up w j (seat_numbered w j).duties (seat_numbered w j).phase
      (each_still w.seats (and_parts (list_all (λ (x : WaitingSeat). is_still x.duties x.phase) w.seats) (sleeps_on changes (seat_numbered w 0).phase) h).0 j);
}

abbrev led_there : Led (all_awake 3) → Bool
led_there None = false
led_there (Some t) = has_slept t.0

slept_by : (o : Led (all_awake 3)) → led_there o ≡ true → SomebodySlept
slept_by None h = absurd (cc)
slept_by (Some t) h = slept_there t.0 t.1 h

pub somebody_slept : SomebodySlept
somebody_slept = slept_by (led worked (all_awake 3)) refl
