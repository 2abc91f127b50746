-- Who is woken: all who sleep on a bell, or one of them.
use Rattle.std.proofs.Common.{◌≡◌, ◌≢◌, ◌⊎◌, inl, inr, ℕ, ◌≤◌, ◌<◌, Bool, true, false, ◌&&◌, ◌||◌, List, ◌∷◌, refl, sym, ap, subst, ◌∙◌}
use Rattle.std.specs.Prelude.{if◌then◌else◌}
use Rattle.std.proofs.Math.Dec.{eqb}
use Rattle.std.proofs.Math.ListN.{get_or-map}
use Rattle.std.proofs.Common.{length-set}
use Rattle.std.proofs.lemmas.List.{length-map}
use Rattle.std.proofs.lemmas.List.{get_or-set_same, get_or-set_other, map-set}
use Rattle.std.proofs.lemmas.Bool.{and_parts, or_cases}
use Rattle.wait_model.specs.Bells.{BellName, leaves, is_same_bell, ByBell, Duty, wake, wake_all}
use Rattle.wait_model.specs.Waiting.{sleeping, waking, Phase, gone, rests, Errand, quick, sleeps_on, WaitingSeat, Waiting, seat_at, owing, seat_numbered, IsSeat, with_seat, never_rang}
use Rattle.wait_model.specs.OwnSteps.{wakes_early}
use Rattle.wait_model.specs.Steps.{seat_woken, with_all_woken}
use Rattle.wait_model.proofs.Tests.{implies, implied, of_bools, of_bool, of_bells, of_bell, of_errands, of_errand, same_bell}
use Rattle.wait_model.proofs.Stands.{stand, stand_by, has, is_raise, is_look, is_wake, is_sound, is_sound_at, is_waking}
use Rattle.wait_model.proofs.Keeping.{Kept, Some, NobodySleeps, AreWoken, stand_of, still_holds, kept_same, kept_woken}
use Rattle.wait_model.proofs.Tables.{is_kept, kept_by}
use Rattle.wait_model.proofs.OwnKeeps.{KeptAt, own_keeps, duty_done, nobody}
use Rattle.wait_model.proofs.Holding.{Holds, own_holds, one_holds, sound_was, seen_was}

-- one who sleeps on the bell b, whatever it owes
abbrev wakes_well : BellName → BellName → Bool → Bool → Bool → Bool → Bool → Errand → Bool → Bool
wakes_well b c a q raising looking waking_one e h = implies (is_sound_at (rests b sleeping) e h)
    (is_sound_at (rests b waking) e h && is_kept a false false (stand_by c q raising looking waking_one (rests b sleeping) e h) (stand_by c q raising looking waking_one (rests b waking) e h))

abbrev of_flags : (Bool → Bool → Bool → Bool → Bool → Bool) → Bool
of_flags f = of_bools (λ a. of_bools (λ q. of_bools (λ r. of_bools (λ l. of_bools (λ k. f a q r l k)))))

of_flag : (f : Bool → Bool → Bool → Bool → Bool → Bool) → of_flags f ≡ true → (a q r l k : Bool) → f a q r l k ≡ true
of_flag f is a q r l k = of_bool (λ k. f a q r l k) (of_bool (λ l. of_bools (λ k. f a q r l k)) (of_bool (λ r. of_bools (λ l. of_bools (λ k. f a q r l k)))
    (of_bool (λ q. of_bools (λ r. of_bools (λ l. of_bools (λ k. f a q r l k)))) (of_bool (λ a. of_bools (λ q. of_bools (λ r. of_bools (λ l. of_bools (λ k. f a q r l k))))) is a) q) r) l) k

all_wake_well : of_bells (λ b. of_bells (λ c. of_errands (λ e. of_bools (λ h. of_flags (λ a q r l k. wakes_well b c a q r l k e h))))) ≡ true
all_wake_well = refl

is_sleeping : (b : BellName) (phase : Phase) → sleeps_on b phase ≡ true → phase ≡ rests b sleeping
is_sleeping b (rests c sleeping) h = ap (λ d. rests d sleeping) (sym (same_bell b c h))
is_sleeping b phase h = absurd (cc)

module _ (b c : BellName) (w : Waiting) where
  abbrev Goal : WaitingSeat → Phase → Type 0
  Goal z phase = KeptAt c w (w.asleep c) z (record z { phase = phase })

  sleeper_woken : (z : WaitingSeat) → is_sound z ≡ true → z.phase ≡ rests b sleeping → Goal z (rests b waking)
  sleeper_woken z sound is =
      let a = w.asleep c in
      let q = eqb (z.seen c) (w.rings c) in
      let r = has (is_raise c) z.duties in
      let l = has (is_look c) z.duties in
      let k = has (is_wake c) z.duties in
      let e = z.errand in
      let h = z.in_hand in
      let table = of_flag (λ a q r l k. wakes_well b c a q r l k e h) (of_bool (λ h. of_flags (λ a q r l k. wakes_well b c a q r l k e h))
      (of_errand (λ e. of_bools (λ h. of_flags (λ a q r l k. wakes_well b c a q r l k e h)))
      (of_bell (λ c. of_errands (λ e. of_bools (λ h. of_flags (λ a q r l k. wakes_well b c a q r l k e h))))
      (of_bell (λ b. of_bells (λ c. of_errands (λ e. of_bools (λ h. of_flags (λ a q r l k. wakes_well b c a q r l k e h))))) all_wake_well b) c) e) h) a q r l k in
      let both = implied (is_sound_at (rests b sleeping) e h) _ table (subst (λ phase. is_sound_at phase e h ≡ true) is sound) in
      record {
        sound = (and_parts (is_sound_at (rests b waking) e h) _ both).0;
        kept = subst (λ phase. Kept a a false (Some c w (λ u. u.owes)) (NobodySleeps c w) (stand_by c q r l k phase e h) (stand_by c q r l k (rests b waking) e h)) (sym is)
            (kept_by a false false (Some c w (λ u. u.owes)) (NobodySleeps c w) (λ no. absurd (cc)) (λ no. absurd (cc)) (stand_by c q r l k (rests b sleeping) e h)
            (stand_by c q r l k (rests b waking) e h) ((and_parts (is_sound_at (rests b waking) e h) _ both).1));
      }

  woken_keeps : (z : WaitingSeat) → is_sound z ≡ true → KeptAt c w (w.asleep c) z (seat_woken b z)
  woken_keeps z sound = by (sleeps_on b z.phase) refl
    where
      by : (test : Bool) → sleeps_on b z.phase ≡ test → Goal z (if test then rests b waking else z.phase)
      by true e = sleeper_woken z sound (is_sleeping b z.phase e)
      by false e = record { sound = sound; kept = kept_same (w.asleep c) (w.asleep c) (Some c w (λ u. u.owes)) (NobodySleeps c w) (stand c w.rings z) }

-- all who sleep on a bell are woken
module _ (b : BellName) (w : Waiting) (holds : Holds w) where
  abbrev woken : Waiting
  woken = with_all_woken b w

  its_seat : (p : ℕ) → seat_numbered woken p ≡ seat_woken b (seat_numbered w p)
  its_seat p = get_or-map (seat_woken b) w.seats p (seat_at gone quick false never_rang)

  all_kept : (c : BellName) (p : ℕ) → Kept (w.asleep c) (w.asleep c) false (Some c w (λ u. u.owes)) (AreWoken c w woken) (stand_of c w p) (stand_of c woken p)
  all_kept c p = subst (λ z. Kept (w.asleep c) (w.asleep c) false (Some c w (λ u. u.owes)) (AreWoken c w woken) (stand_of c w p) (stand c w.rings z)) (sym (its_seat p))
      (kept_woken c w woken (woken_keeps b c w (seat_numbered w p) (holds.sound p)).kept)

  pub woken_holds : Holds woken
  woken_holds = record {
    sound = λ p. subst (λ z. is_sound z ≡ true) (sym (its_seat p)) (woken_keeps b leaves w (seat_numbered w p) (holds.sound p)).sound;
    seen = λ c p. subst (λ z. z.seen c ≤ w.rings c) (sym (its_seat p)) (holds.seen c p);
    bells = λ c. still_holds c w woken false (holds.bells c) (λ no. absurd (cc)) (all_kept c) (λ off on. absurd (cc)) (λ on off. absurd (cc));
  }

  awake_now : (z : WaitingSeat) → sleeps_on b (seat_woken b z).phase ≡ true → ⊥
  awake_now z = by (sleeps_on b z.phase) refl
    where
      by : (test : Bool) → sleeps_on b z.phase ≡ test → sleeps_on b (if test then rests b waking else z.phase) ≡ true → ⊥
      by true e h = absurd (cc)
      by false e h = absurd (cc)

  pub nobody_left : NobodySleeps b woken
  nobody_left p h = awake_now (seat_numbered w p) (subst (λ z. sleeps_on b z.phase ≡ true) (its_seat p) h)

module _ (w : Waiting) (holds : Holds w) (i : ℕ) (b : BellName) (ds : List Duty) (x : WaitingSeat) where
  pub wakes_all_holds : IsSeat w i (owing (wake_all b ∷ ds) x) → Holds (with_all_woken b (with_seat i (owing ds x) w))
  wakes_all_holds is =
      let here = subst (λ z. IsSeat (with_all_woken b w) i z) refl (subst (λ n. i < n) (sym (length-map w.seats (seat_woken b))) is.0, its_seat b w holds i ∙ ap (seat_woken b) is.1) in
      subst (λ seats. Holds (record { seats = seats; rings = w.rings; asleep = w.asleep })) (sym (map-set (seat_woken b) w.seats i (owing ds x)))
      (own_holds (with_all_woken b w) (woken_holds b w holds) i (owing (wake_all b ∷ ds) (seat_woken b x)) here (owing ds (seat_woken b x))
      (λ c. duty_done c (with_all_woken b w) (seat_woken b x) (wake_all b ∷ ds) ds (λ h. h) (λ one h. h) (λ off. nobody c (with_all_woken b w) b (has (is_wake c) ds) (nobody_left b w holds))
      (sound_was (with_all_woken b w) (woken_holds b w holds) i (owing (wake_all b ∷ ds) (seat_woken b x)) here))
      (seen_was (with_all_woken b w) (woken_holds b w holds) i (owing (wake_all b ∷ ds) (seat_woken b x)) here))

  -- one of them is
  module _ (k : ℕ) (e : Errand) (h : Bool) (v : ByBell ℕ) (is : IsSeat w i (owing (wake b ∷ ds) x)) (sleeps : IsSeat w k (seat_at (rests b sleeping) e h v)) where
    abbrev halfway : Waiting
    halfway = with_seat k (seat_at (rests b waking) e h v) w

    half_holds : Holds halfway
    half_holds = own_holds w holds k (seat_at (rests b sleeping) e h v) sleeps (seat_at (rests b waking) e h v)
        (λ c. own_keeps c w (wakes_early b) (sound_was w holds k (seat_at (rests b sleeping) e h v) sleeps))
        (seen_was w holds k (seat_at (rests b sleeping) e h v) sleeps)

    apart : i ≢ k
    apart same = let s : owing (wake b ∷ ds) x ≡ seat_at (rests b sleeping) e h v = sym is.1 ∙ (ap (seat_numbered w) same ∙ sleeps.1) in absurd (cc (ap (λ z. z.duties) s))

    still_there : IsSeat halfway i (owing (wake b ∷ ds) x)
    still_there = (
      subst (λ n. i < n) (sym (length-set w.seats k (seat_at (rests b waking) e h v))) is.0,
      get_or-set_other w.seats k i (seat_at (rests b waking) e h v)
          (seat_at gone quick false never_rang) apart ∙ is.1,
    )

    abbrev after : Waiting
    after = with_seat i (owing ds x) halfway

    the_woken : seat_numbered after k ≡ seat_at (rests b waking) e h v
    the_woken = get_or-set_other halfway.seats i k (owing ds x) (seat_at gone quick false never_rang) (λ same. apart (sym same)) ∙ get_or-set_same w.seats k (seat_at (rests b waking) e h v)
        (seat_at gone quick false never_rang) sleeps.0

    is_woken : (c : BellName) → is_same_bell c b ≡ true → (stand_of c after k).wakes ≡ true
    is_woken c same = subst (λ z. (stand c w.rings z).wakes ≡ true) (sym the_woken) same

    kept : (c : BellName) → Kept (w.asleep c) (w.asleep c) false (Some c halfway (λ u. u.owes)) (AreWoken c halfway after) (stand c w.rings (owing (wake b ∷ ds) x)) (stand c w.rings (owing ds x))
    kept c = record {
      owes = λ still h. h;
      fresh = λ still h. inl h;
      answers = λ one now h. inl h;
      deep = λ h. inl h;
      wakes = λ off h. by (or_cases (is_same_bell c b) (has (is_wake c) ds || is_waking c x.phase) (or_assoc (is_same_bell c b) (has (is_wake c) ds) (is_waking c x.phase) h));
      sleeps = λ off h. h;
    }
      where
        or_assoc : (l m n : Bool) → ((l || m) || n) ≡ true → (l || (m || n)) ≡ true
        or_assoc true m n h = refl
        or_assoc false m n h = h

        by : (is_same_bell c b ≡ true) ⊎ ((has (is_wake c) ds || is_waking c x.phase) ≡ true) → ((has (is_wake c) ds || is_waking c x.phase) ≡ true) ⊎ AreWoken c halfway after
        by (inl same) = inr (λ p was. (k, is_woken c same))
        by (inr h) = inl h

    pub wakes_holds : Holds after
    wakes_holds = one_holds halfway half_holds i (owing (wake b ∷ ds) x) still_there (owing ds x) (sound_was halfway half_holds i (owing (wake b ∷ ds) x) still_there) kept
        (seen_was halfway half_holds i (owing (wake b ∷ ds) x) still_there)
