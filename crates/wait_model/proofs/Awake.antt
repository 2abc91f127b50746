-- Where some seat has not ended, some seat is awake or has a transfer out.
use Rattle.std.proofs.Common.{◌≡◌, ◌≢◌, ◌⊎◌, inl, inr, ℕ, zero, suc, ◌+◌, ◌≤◌, Bool, true, false, ◌&&◌, ◌||◌, List, [], ◌∷◌, length, refl, sym, ap, subst, arith}
use Rattle.std.proofs.Math.Dec.{eqb}
use Rattle.std.proofs.Math.ListN.{get_or-eq_default}
use Rattle.std.proofs.lemmas.Bool.{and_from, or_cases}
use Rattle.wait_model.specs.Bells.{BellName, leaves, changes, files, is_same_bell, by_bell, Duty}
use Rattle.wait_model.specs.Waiting.{sleeping, waking, Phase, idle, gone, waits, out, rests, Errand, quick, sleeps_on, WaitingSeat, Waiting, seat_at, seat_numbered, never_rang, all_awake}
use Rattle.wait_model.specs.WaitLaws.{IsUp, IsAwake, HasTransferOut, HasEnded, NobodySleepsForGood}
use Rattle.wait_model.proofs.Tests.{implies, implied}
use Rattle.wait_model.proofs.Stands.{stand, has, is_wake, is_sound, is_sound_at, is_waking, rests_deep}
use Rattle.wait_model.proofs.Keeping.{stand_of}
use Rattle.wait_model.proofs.OwnKeeps.{every, at_every, seen_as}
use Rattle.wait_model.proofs.Holding.{Holds}
use Rattle.wait_model.proofs.Reached.{steps_hold}

-- at the start
at_start : (P : WaitingSeat → Type 0) → P (seat_at idle quick false never_rang) → P (seat_at gone quick false never_rang) → (n p : ℕ) → P (seat_numbered (all_awake n) p)
at_start P h k zero p = k
at_start P h k (suc n) zero = h
at_start P h k (suc n) (suc p) = at_start P h k n p

still_word : (c : BellName) → by_bell false false false c ≡ true → ⊥
still_word leaves h = absurd (cc)
still_word changes h = absurd (cc)
still_word files h = absurd (cc)

start_holds : (n : ℕ) → Holds (all_awake n)
start_holds n = record {
  sound = at_start (λ z. is_sound z ≡ true) refl refl n;
  seen = λ c p. at_start (λ z. z.seen c ≤ never_rang c) (omega arith) (omega arith) n p;
  bells = λ c. record {
    fresh = λ p h. absurd (at_start (λ z. (stand c never_rang z).fresh ≡ true → ⊥) (λ h. absurd (cc)) (λ h. absurd (cc)) n p h);
    deep = λ on p h. absurd (still_word c on);
    sleeps = λ off p h. absurd (at_start (λ z. (stand c never_rang z).sleeps ≡ true → ⊥) (λ h. absurd (cc)) (λ h. absurd (cc)) n p h);
  };
}

-- a seat that owes nothing goes on, but where it has ended, waits for a child, or sleeps
abbrev is_going : Phase → Bool
is_going gone = false
is_going (waits n) = false
is_going (rests b sleeping) = false
is_going phase = true

abbrev Up : Waiting → ℕ → Type 0
Up w j = IsAwake w j ⊎ HasTransferOut w j

abbrev UpAt : Waiting → ℕ → Phase → Type 0
UpAt w j phase = IsUp w j phase ⊎ (phase ≡ out)

going_up : (w : Waiting) (j : ℕ) (phase : Phase) → is_going phase ≡ true → UpAt w j phase
going_up w j gone h = absurd (cc)
going_up w j (waits n) h = absurd (cc)
going_up w j (rests b sleeping) h = absurd (cc)
going_up w j out h = inr refl
going_up w j phase h = inl tt

some_duty : {ds : List Duty} (d : Duty) (es : List Duty) → ds ≡ d ∷ es → ds ≢ []
some_duty d es e none = absurd (cc)

module _ (w : Waiting) (j : ℕ) where
  up_here : UpAt w j (seat_numbered w j).phase → Up w j
  up_here (inl h) = inl (inr h)
  up_here (inr h) = inr h

  -- it owes something, or goes on
  up_by : (ds : List Duty) → (seat_numbered w j).duties ≡ ds → (ds ≡ [] → Up w j) → Up w j
  up_by [] e h = h refl
  up_by (d ∷ ds) e h = inl (inl (some_duty d ds e))

  up_going : ((seat_numbered w j).duties ≡ [] → is_going (seat_numbered w j).phase ≡ true) → Up w j
  up_going h = up_by (seat_numbered w j).duties refl (λ none. up_here (going_up w j (seat_numbered w j).phase (h none)))

waking_goes : (c : BellName) (phase : Phase) → is_waking c phase ≡ true → is_going phase ≡ true
waking_goes c (rests b waking) h = refl
waking_goes c phase h = absurd (cc)

sleeps_deep : (c : BellName) (phase : Phase) → sleeps_on c phase ≡ true → rests_deep c phase ≡ true
sleeps_deep c (rests b sleeping) h = rw h refl
sleeps_deep c phase h = absurd (cc)

-- Whoever answers for those who rest on a bell goes on, or sleeps on a bell before it.
abbrev sleeps_before : BellName → Phase → Bool
sleeps_before leaves phase = false
sleeps_before changes phase = sleeps_on leaves phase
sleeps_before files phase = sleeps_on leaves phase || sleeps_on changes phase

abbrev answers_well : Phase → BellName → Bool → Errand → Bool → Bool
answers_well phase c q e h = implies (is_sound_at phase e h && (seen_as c q [] phase e h).answers) (is_going phase || sleeps_before c phase)

all_answer : (phase : Phase) → every (λ e h c a q. answers_well phase c q e h) ≡ true
all_answer gone = refl
all_answer (waits n) = refl
all_answer (rests leaves sleeping) = refl
all_answer (rests changes sleeping) = refl
all_answer (rests files sleeping) = refl
all_answer phase = refl

same_as_itself : (b : BellName) → is_same_bell b b ≡ true
same_as_itself leaves = refl
same_as_itself changes = refl
same_as_itself files = refl

module _ (w : Waiting) (holds : Holds w) where
  -- one who answers, and owes nothing
  answers_at : (c : BellName) (k : ℕ) → (stand_of c w k).answers ≡ true → (seat_numbered w k).duties ≡ [] → (is_going (seat_numbered w k).phase || sleeps_before c (seat_numbered w k).phase) ≡ true
  answers_at c k h none =
      let z = seat_numbered w k in
      let q = eqb (z.seen c) (w.rings c) in
      let now : (seen_as c q [] z.phase z.errand z.in_hand).answers ≡ true = subst (λ ds. (seen_as c q ds z.phase z.errand z.in_hand).answers ≡ true) none h in
      implied (is_sound_at z.phase z.errand z.in_hand && (seen_as c q [] z.phase z.errand z.in_hand).answers) _
      (at_every (λ e h c a q. answers_well z.phase c q e h) (all_answer z.phase) z.errand z.in_hand c true q)
      (and_from (is_sound_at z.phase z.errand z.in_hand) _ (holds.sound k) now)

  module _ (c : BellName) (before : (k : ℕ) → sleeps_before c (seat_numbered w k).phase ≡ true → (j : ℕ) × Up w j) where
    one_who_answers : (k : ℕ) → (stand_of c w k).answers ≡ true → (j : ℕ) × Up w j
    one_who_answers k h = by_duties (seat_numbered w k).duties refl
      where
        by : (is_going (seat_numbered w k).phase ≡ true) ⊎ (sleeps_before c (seat_numbered w k).phase ≡ true) → (j : ℕ) × Up w j
        by (inl g) = (k, up_here w k (going_up w k (seat_numbered w k).phase g))
        by (inr s) = before k s

        by_duties : (ds : List Duty) → (seat_numbered w k).duties ≡ ds → (j : ℕ) × Up w j
        by_duties [] e = by (or_cases (is_going (seat_numbered w k).phase) (sleeps_before c (seat_numbered w k).phase) (answers_at c k h e))
        by_duties (d ∷ ds) e = (k, inl (inl (some_duty d ds e)))

    one_who_wakes : (k : ℕ) → (stand_of c w k).wakes ≡ true → (j : ℕ) × Up w j
    one_who_wakes k h = (k, up_going w k (λ none. waking_goes c (seat_numbered w k).phase (subst (λ ds. (has (is_wake c) ds || is_waking c (seat_numbered w k).phase) ≡ true) none h)))

    sleeper_up : (p : ℕ) → sleeps_on c (seat_numbered w p).phase ≡ true → (j : ℕ) × Up w j
    sleeper_up p is = by (w.asleep c) refl
      where
        by : (word : Bool) → w.asleep c ≡ word → (j : ℕ) × Up w j
        by true e = let k = (holds.bells c).deep e p (sleeps_deep c (seat_numbered w p).phase is) in one_who_answers k.0 k.1
        by false e = let k = (holds.bells c).sleeps e p is in one_who_wakes k.0 k.1

  on_leaves : (p : ℕ) → sleeps_on leaves (seat_numbered w p).phase ≡ true → (j : ℕ) × Up w j
  on_leaves = sleeper_up leaves (λ k h. absurd (cc))

  on_changes : (p : ℕ) → sleeps_on changes (seat_numbered w p).phase ≡ true → (j : ℕ) × Up w j
  on_changes = sleeper_up changes on_leaves

  on_files : (p : ℕ) → sleeps_on files (seat_numbered w p).phase ≡ true → (j : ℕ) × Up w j
  on_files = sleeper_up files (λ k h. by k (or_cases (sleeps_on leaves (seat_numbered w k).phase) (sleeps_on changes (seat_numbered w k).phase) h))
    where
      by : (k : ℕ) → (sleeps_on leaves (seat_numbered w k).phase ≡ true) ⊎ (sleeps_on changes (seat_numbered w k).phase ≡ true) → (j : ℕ) × Up w j
      by k (inl h) = on_leaves k h
      by k (inr h) = on_changes k h

  on_bell : (b : BellName) (p : ℕ) → (seat_numbered w p).phase ≡ rests b sleeping → (j : ℕ) × Up w j
  on_bell leaves p is = on_leaves p (ap (sleeps_on leaves) is)
  on_bell changes p is = on_changes p (ap (sleeps_on changes) is)
  on_bell files p is = on_files p (ap (sleeps_on files) is)

  -- a parent waits for a child with a greater number
  somebody_up : (fuel i : ℕ) → length w.seats ≤ i + fuel → (HasEnded w i → ⊥) → (j : ℕ) × Up w j
  somebody_up zero i le going = absurd (going (ap (λ z. z.phase) (get_or-eq_default w.seats (seat_at gone quick false never_rang) (omega (arith, le)))))
  somebody_up (suc fuel) i le going = by (seat_numbered w i).phase refl (λ n. somebody_up fuel (i + 1 + n) (omega (arith, le)))
    where
      child : (n : ℕ) → (seat_numbered w i).phase ≡ waits n → (phase : Phase) → (seat_numbered w (i + 1 + n)).phase ≡ phase → ((HasEnded w (i + 1 + n) → ⊥) → (j : ℕ) × Up w j) → (j : ℕ) × Up w j
      child n e gone ended rest = (i, up_here w i (subst (UpAt w i) (sym e) (inl ended)))
      child n e phase is rest = rest (λ ended. absurd (cc (is, ended)))

      by : (phase : Phase) → (seat_numbered w i).phase ≡ phase → ((n : ℕ) → (HasEnded w (i + 1 + n) → ⊥) → (j : ℕ) × Up w j) → (j : ℕ) × Up w j
      by gone e rest = absurd (going e)
      by (waits n) e rest = child n e (seat_numbered w (i + 1 + n)).phase refl (rest n)
      by (rests b sleeping) e rest = on_bell b i e
      by phase e rest = (i, up_here w i (going_up w i (seat_numbered w i).phase (ap is_going e)))

pub nobody_sleeps_for_good : NobodySleepsForGood
nobody_sleeps_for_good = record { somebody = λ n w walk i going. somebody_up w (steps_hold (all_awake n) (start_holds n) walk) (length w.seats) i (omega arith) going }
