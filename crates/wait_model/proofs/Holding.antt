-- What holds of all seats and bells, wherever the steps lead.
use Rattle.std.proofs.Common.{◌≡◌, ◌≢◌, ◌⊎◌, inl, inr, ℕ, ◌+◌, ◌≤◌, ◌<◌, Bool, true, false, not, ◌&&◌, ◌||◌, List, length, get_or, set, refl, sym, ap, subst, ◌∙◌, arith}
use Rattle.std.proofs.Math.Dec.{eqb}
use Rattle.std.proofs.lemmas.Bool.Decides.{eqb_tells}
use Rattle.std.proofs.lemmas.List.{get_or-set_same, get_or-set_other}
use Rattle.std.proofs.lemmas.Bool.{and_parts, or_cases, or_left, or_right}
use Rattle.wait_model.specs.Bells.{BellName, leaves, is_same_bell, with_bell, Duty}
use Rattle.wait_model.specs.Waiting.{gone, quick, WaitingSeat, Waiting, seat_at, owing, seat_numbered, IsSeat, with_seat, never_rang}
use Rattle.wait_model.specs.OwnSteps.{three_bells, OwnStep, reads}
use Rattle.wait_model.specs.Steps.{with_ring, with_word}
use Rattle.wait_model.proofs.Tests.{or_more, same_bell, with_same_bell, with_other_bell}
use Rattle.wait_model.proofs.Stands.{Stand, stand, stand_by, has, is_raise, is_look, is_wake, is_sound, will_ring, is_waking, rests_early, is_on_way}
use Rattle.wait_model.proofs.Keeping.{Kept, Some, AreWoken, BellHolds, stand_of, still_holds, fresh_now, answering, kept_same, kept_woken}
use Rattle.wait_model.proofs.OwnKeeps.{OwnKept, KeptAt, duty_done}

pub record Holds (w : Waiting) : Type 0 where
  pub sound : (p : ℕ) → is_sound (seat_numbered w p) ≡ true
  pub seen : (c : BellName) (p : ℕ) → (seat_numbered w p).seen c ≤ w.rings c
  pub bells : (c : BellName) → BellHolds c w

-- one seat is another, and the others are as they were
pub by_seat : (P : ℕ → WaitingSeat → Type 0) (w : Waiting) (i : ℕ) (y : WaitingSeat) → i < length w.seats → P i y → ((p : ℕ) → P p (seat_numbered w p)) → (p : ℕ) → P p
    (seat_numbered (with_seat i y w) p)
by_seat P w i y le own others p = by (eqb_tells p i)
  where
    gone_seat : WaitingSeat
    gone_seat = seat_at gone quick false never_rang

    by : ((eqb p i ≡ true) × (p ≡ i)) ⊎ ((eqb p i ≡ false) × (p ≢ i)) → P p (get_or (set w.seats i y) p gone_seat)
    by (inl h) = subst (λ k. P k (get_or (set w.seats i y) k gone_seat)) (sym h.1) (subst (P i) (sym (get_or-set_same w.seats i y gone_seat le)) own)
    by (inr h) = subst (P p) (sym (get_or-set_other w.seats i p y gone_seat h.1)) (others p)

pub own_seen : (w : Waiting) {x y : WaitingSeat} → OwnStep three_bells w x y → ((c : BellName) → x.seen c ≤ w.rings c) → (c : BellName) → y.seen c ≤ w.rings c
own_seen w (reads b {v = v}) h c = by (is_same_bell c b) refl
  where
    by : (same : Bool) → is_same_bell c b ≡ same → with_bell b (w.rings b) v c ≤ w.rings c
    by true e = rw (same_bell c b e, with_same_bell b (w.rings b) v) (omega arith)
    by false e = rw (with_other_bell b c (w.rings b) v e) (h c)
own_seen w step h c = h c

module _ (w : Waiting) (holds : Holds w) (i : ℕ) (x : WaitingSeat) (is : IsSeat w i x) where
  pub sound_was : is_sound x ≡ true
  sound_was = subst (λ z. is_sound z ≡ true) is.1 (holds.sound i)

  pub seen_was : (c : BellName) → x.seen c ≤ w.rings c
  seen_was c = subst (λ z. z.seen c ≤ w.rings c) is.1 (holds.seen c i)

  -- a step of one seat alone
  module _ (y : WaitingSeat) (sound : is_sound y ≡ true) (kept : (c : BellName) → Kept (w.asleep c) (w.asleep c) false (Some c w (λ u. u.owes)) (AreWoken c w (with_seat i y w))
      (stand c w.rings x) (stand c w.rings y))
      (seen : (c : BellName) → y.seen c ≤ w.rings c) where
    own_bells : (c : BellName) → BellHolds c (with_seat i y w)
    own_bells c = still_holds c w (with_seat i y w) false (holds.bells c) (λ no. absurd (cc))
        (by_seat (λ p z. Kept (w.asleep c) (w.asleep c) false (Some c w (λ u. u.owes)) (AreWoken c w (with_seat i y w)) (stand c w.rings (seat_numbered w p)) (stand c w.rings z)) w i y is.0
        (subst (λ z. Kept (w.asleep c) (w.asleep c) false (Some c w (λ u. u.owes)) (AreWoken c w (with_seat i y w)) (stand c w.rings z) (stand c w.rings y)) (sym is.1) (kept c))
        (λ p. kept_same (w.asleep c) (w.asleep c) (Some c w (λ u. u.owes)) (AreWoken c w (with_seat i y w)) (stand_of c w p)))
        (λ off on. absurd (cc)) (λ on off. absurd (cc))

    pub one_holds : Holds (with_seat i y w)
    one_holds = record {
      sound = by_seat (λ p z. is_sound z ≡ true) w i y is.0 sound holds.sound;
      seen = λ c. by_seat (λ p z. z.seen c ≤ w.rings c) w i y is.0 (seen c) (holds.seen c);
      bells = own_bells;
    }

  pub own_holds : (y : WaitingSeat) → ((c : BellName) → OwnKept c w x y) → ((c : BellName) → y.seen c ≤ w.rings c) → Holds (with_seat i y w)
  own_holds y own = one_holds y (own leaves).sound (λ c. kept_woken c w (with_seat i y w) (own c).kept)

  -- the bell's word is set too
  module _ (b : BellName) (word : Bool) (y : WaitingSeat) where
    abbrev worded : Waiting
    worded = with_word b word (with_seat i y w)

    abbrev KeptWorded : BellName → WaitingSeat → WaitingSeat → Type 0
    KeptWorded c = λ z t. Kept (w.asleep c) (worded.asleep c) false (Some c w (λ u. u.owes)) (AreWoken c w worded) (stand c w.rings z) (stand c w.rings t)

    all_kept : (c : BellName) → KeptWorded c x y → (p : ℕ) → KeptWorded c (seat_numbered w p) (seat_numbered worded p)
    all_kept c kept = by_seat (λ p z. KeptWorded c (seat_numbered w p) z) w i y is.0 (subst (λ z. KeptWorded c z y) (sym is.1) kept)
        (λ p. kept_same (w.asleep c) (worded.asleep c) (Some c w (λ u. u.owes)) (AreWoken c w worded) (stand_of c w p))

    -- only this bell's word changes
    its_bell : (c : BellName) (old : Bool) → w.asleep c ≡ old → worded.asleep c ≡ not old → is_same_bell c b ≡ true
    its_bell c old was is_now = by (is_same_bell c b) refl
      where
        differs : (a : Bool) → a ≡ not a → ⊥
        differs true h = absurd (cc)
        differs false h = absurd (cc)

        by : (same : Bool) → is_same_bell c b ≡ same → same ≡ true
        by true e = refl
        by false e = absurd (differs old (sym was ∙ (sym (with_other_bell b c word w.asleep e) ∙ is_now)))

    worded_sound : is_sound y ≡ true → (p : ℕ) → is_sound (seat_numbered worded p) ≡ true
    worded_sound sound = by_seat (λ p z. is_sound z ≡ true) w i y is.0 sound holds.sound

    worded_seen : ((c : BellName) → y.seen c ≤ w.rings c) → (c : BellName) (p : ℕ) → (seat_numbered worded p).seen c ≤ w.rings c
    worded_seen seen c = by_seat (λ p z. z.seen c ≤ w.rings c) w i y is.0 (seen c) (holds.seen c)

    pub own_stand : (c : BellName) → stand_of c worded i ≡ stand c w.rings y
    own_stand c = ap (stand c w.rings) (get_or-set_same w.seats i y (seat_at gone quick false never_rang) is.0)

  -- it becomes 1: the seat goes on to a try, or has seen the count that the bell has still
  module _ (b : BellName) (y : WaitingSeat) (kept : (c : BellName) → KeptAt c w (with_bell b true w.asleep c) x y) (seen : (c : BellName) → y.seen c ≤ w.rings c)
      (settled : ((stand b w.rings y).fresh || (stand b w.rings y).answers) ≡ true) where
    kept_on : (c : BellName) → KeptWorded b true y c x y
    kept_on c = let k = kept_woken c w (worded b true y) (kept c).kept in record {
      owes = k.owes;
      fresh = k.fresh;
      answers = λ one now. k.answers now now;
      deep = k.deep;
      wakes =
          k.wakes;
      sleeps = k.sleeps;
    }

    on_at : (c : BellName) → is_same_bell c b ≡ true → Some c (worded b true y) (λ u. u.answers)
    on_at c same = by (or_cases (stand c w.rings y).fresh (stand c w.rings y).answers
        (subst (λ d. ((stand d w.rings y).fresh || (stand d w.rings y).answers) ≡ true) (sym (same_bell c b same)) settled))
      where
        by : ((stand c w.rings y).fresh ≡ true) ⊎ ((stand c w.rings y).answers ≡ true) → Some c (worded b true y) (λ u. u.answers)
        by (inl h) = answering c w (worded b true y) false (holds.bells c) (λ no. absurd (cc)) (all_kept b true y c (kept_on c))
            (fresh_now c w (worded b true y) false (holds.bells c) (λ no. absurd (cc)) (all_kept b true y c (kept_on c)) i (subst (λ u. u.fresh ≡ true) (sym (own_stand b true y c)) h))
        by (inr h) = (i, subst (λ u. u.answers ≡ true) (sym (own_stand b true y c)) h)

    pub on_holds : Holds (worded b true y)
    on_holds = record {
      sound = worded_sound b true y (kept leaves).sound;
      seen = worded_seen b true y seen;
      bells = λ c. still_holds c w (worded b true y) false (holds.bells c) (λ no. absurd (cc)) (all_kept b true y c (kept_on c)) (λ off on. on_at c (its_bell b true y c false off on))
          (λ on off. absurd (cc (with_same_bell b true w.asleep, subst (λ d. (worded b true y).asleep d ≡ false) (same_bell c b (its_bell b true y c true on off)) off)));
    }

-- it becomes 0, and a wake-up is owed in place of a look
module _ (w : Waiting) (holds : Holds w) (i : ℕ) (b : BellName) (old new : List Duty) (z : WaitingSeat) (is : IsSeat w i (owing old z)) (on : w.asleep b ≡ true)
    (raising : (c : BellName) → has (is_raise c) old ≡ true → has (is_raise c) new ≡ true)
    (looking : (c : BellName) → is_same_bell c b ≡ false → has (is_look c) old ≡ true → has (is_look c) new ≡ true)
    (waking_one : (c : BellName) → has (is_wake c) old ≡ true → has (is_wake c) new ≡ true) (wakes_now : (c : BellName) → is_same_bell c b ≡ true → has (is_wake c) new ≡ true) where
  abbrev offed : Waiting
  offed = with_word b false (with_seat i (owing new z) w)

  abbrev KeptOff : BellName → Bool → Type 0
  KeptOff c word = Kept (w.asleep c) word false (Some c w (λ u. u.owes)) (AreWoken c w offed) (stand c w.rings (owing old z)) (stand c w.rings (owing new z))

  kept_off : (c : BellName) → KeptOff c (offed.asleep c)
  kept_off c = by (is_same_bell c b) refl
    where
      its : offed.asleep c ≡ false → KeptOff c (offed.asleep c)
      its off = record {
        owes = λ still. or_more (has (is_raise c) old) (has (is_raise c) new) (will_ring c z.phase z.errand z.in_hand) (will_ring c z.phase z.errand z.in_hand) (raising c) (λ h. h);
        fresh = λ still h. inl h;
        answers = λ one now. absurd (cc);
        deep = λ h. inl h;
        wakes = λ now h. inl (or_more (has (is_wake c) old) (has (is_wake c) new) (is_waking c z.phase) (is_waking c z.phase) (waking_one c) (λ h. h) h);
        sleeps = λ now h. h;
      }

      by : (same : Bool) → is_same_bell c b ≡ same → KeptOff c (offed.asleep c)
      by true e = its (subst (λ d. offed.asleep d ≡ false) (sym (same_bell c b e)) (with_same_bell b false w.asleep))
      by false e = subst (KeptOff c) (sym (with_other_bell b c false w.asleep e))
          (kept_woken c w offed (duty_done c w z old new (raising c) (λ one. looking c e) (λ off h. inl (waking_one c h)) (sound_was w holds i (owing old z) is)).kept)

  off_at : (c : BellName) → is_same_bell c b ≡ true → Some c offed (λ u. u.wakes)
  off_at c same = (i, subst (λ u. u.wakes ≡ true) (sym (own_stand w holds i (owing old z) is b false (owing new z) c)) (or_left (has (is_wake c) new) (is_waking c z.phase) (wakes_now c same)))

  pub off_holds : Holds offed
  off_holds = record {
    sound = worded_sound w holds i (owing old z) is b false (owing new z) (sound_was w holds i (owing old z) is);
    seen = worded_seen w holds i (owing old z) is b false (owing new z) (seen_was w holds i (owing old z) is);
    bells = λ c. still_holds c w offed false (holds.bells c) (λ no. absurd (cc)) (all_kept w holds i (owing old z) is b false (owing new z) c (kept_off c))
        (λ off now. absurd (cc (on, subst (λ d. w.asleep d ≡ false) (same_bell c b (its_bell w holds i (owing old z) is b false (owing new z) c false off now)) off)))
        (λ one now. off_at c (its_bell w holds i (owing old z) is b false (owing new z) c true one now));
  }

-- the count rises
module _ (w : Waiting) (holds : Holds w) (i : ℕ) (b : BellName) (old new : List Duty) (z : WaitingSeat) (is : IsSeat w i (owing old z))
    (raising : (c : BellName) → is_same_bell c b ≡ false → has (is_raise c) old ≡ true → has (is_raise c) new ≡ true)
    (looking : (c : BellName) → has (is_look c) old ≡ true → has (is_look c) new ≡ true)
    (looks_now : (c : BellName) → is_same_bell c b ≡ true → has (is_look c) new ≡ true) (waking_one : (c : BellName) → has (is_wake c) old ≡ true → has (is_wake c) new ≡ true) where
  abbrev rung : Waiting
  rung = with_ring b (with_seat i (owing new z) w)

  rings_up : (c : BellName) → w.rings c ≤ rung.rings c
  rings_up c = by (is_same_bell c b) refl
    where
      by : (same : Bool) → is_same_bell c b ≡ same → w.rings c ≤ rung.rings c
      by true e = rw (same_bell c b e, with_same_bell b (w.rings b + 1) w.rings) (omega arith)
      by false e = rw (with_other_bell b c (w.rings b + 1) w.rings e) (omega arith)

  -- nobody has seen the new count
  unseen : (c : BellName) → is_same_bell c b ≡ true → (n : ℕ) → n ≤ w.rings c → eqb n (rung.rings c) ≡ false
  unseen c same n le = by (eqb_tells n (rung.rings c))
    where
      up : rung.rings c ≡ w.rings c + 1
      up = subst (λ d. rung.rings d ≡ w.rings d + 1) (sym (same_bell c b same)) (with_same_bell b (w.rings b + 1) w.rings)

      by : ((eqb n (rung.rings c) ≡ true) × (n ≡ rung.rings c)) ⊎ ((eqb n (rung.rings c) ≡ false) × (n ≢ rung.rings c)) → eqb n (rung.rings c) ≡ false
      by (inl h) = absurd (omega (arith, h.1, up, le))
      by (inr h) = h.0

  abbrev KeptUp : BellName → WaitingSeat → WaitingSeat → Type 0
  KeptUp c x y = Kept (w.asleep c) (w.asleep c) (is_same_bell c b) (Some c w (λ u. u.owes)) (AreWoken c w rung) (stand c w.rings x) (stand c rung.rings y)

  -- to a bell that rang so often
  abbrev stand_at : BellName → ℕ → WaitingSeat → Stand
  stand_at c n y = stand_by c (eqb (y.seen c) n) (has (is_raise c) y.duties) (has (is_look c) y.duties) (has (is_wake c) y.duties) y.phase y.errand y.in_hand

  module _ (c : BellName) (y : WaitingSeat) (before after : List Duty) (seen : y.seen c ≤ w.rings c)
      (raise_kept : has (is_raise c) before ≡ true → (has (is_raise c) after ≡ true) ⊎ ((is_same_bell c b ≡ true) × (has (is_look c) after ≡ true)))
      (look_kept : has (is_look c) before ≡ true → has (is_look c) after ≡ true) (wake_kept : has (is_wake c) before ≡ true → has (is_wake c) after ≡ true) where
    more : (will early : Bool) (rest : Bool) (q r : Bool) → r ≡ false → ((has (is_raise c) before || will) || (has (is_look c) before || (rest || (early && not q)))) ≡ true
        → ((has (is_raise c) after || will) || (has (is_look c) after || (rest || (early && not r)))) ≡ true
    more will early rest q r is_false h = by (or_cases (has (is_raise c) before || will) (has (is_look c) before || (rest || (early && not q))) h)
      where
        all : Bool
        all = has (is_look c) after || (rest || (early && not r))

        still_early : (early && not q) ≡ true → (early && not r) ≡ true
        still_early e = subst (λ f. (early && not f) ≡ true) (sym is_false) (both_true ((and_parts early (not q) e).0))
          where
            both_true : early ≡ true → (early && true) ≡ true
            both_true e = rw e refl

        raised : (has (is_raise c) after ≡ true) ⊎ ((is_same_bell c b ≡ true) × (has (is_look c) after ≡ true)) → ((has (is_raise c) after || will) || all) ≡ true
        raised (inl e) = or_left (has (is_raise c) after || will) all (or_left (has (is_raise c) after) will e)
        raised (inr e) = or_right (has (is_raise c) after || will) all (or_left (has (is_look c) after) (rest || (early && not r)) e.1)

        first : (has (is_raise c) before ≡ true) ⊎ (will ≡ true) → ((has (is_raise c) after || will) || all) ≡ true
        first (inl e) = raised (raise_kept e)
        first (inr e) = or_left (has (is_raise c) after || will) all (or_right (has (is_raise c) after) will e)

        by : ((has (is_raise c) before || will) ≡ true) ⊎ ((has (is_look c) before || (rest || (early && not q))) ≡ true) → ((has (is_raise c) after || will) || all) ≡ true
        by (inl e) = first (or_cases (has (is_raise c) before) will e)
        by (inr e) = or_right (has (is_raise c) after || will) all (or_more (has (is_look c) before) (has (is_look c) after) (rest || (early && not q)) (rest || (early && not r)) look_kept
            (or_more rest rest (early && not q) (early && not r) (λ k. k) still_early) e)

    -- at the bell that rang
    kept_risen : is_same_bell c b ≡ true → Kept (w.asleep c) (w.asleep c) true (Some c w (λ u. u.owes)) (AreWoken c w rung) (stand c w.rings (owing before y))
        (stand_at c (rung.rings c) (owing after y))
    kept_risen same = record {
      owes = λ still. absurd (cc);
      fresh = λ still. absurd (cc);
      answers = λ one now h. inl (more (will_ring c y.phase y.errand y.in_hand) (rests_early c y.phase) (is_on_way c y.phase y.errand || is_waking c y.phase) (eqb (y.seen c) (w.rings c))
          (eqb (y.seen c) (rung.rings c)) (unseen c same (y.seen c) seen) h);
      deep = λ h. inl h;
      wakes = λ off h. inl (or_more (has (is_wake c) before) (has (is_wake c) after) (is_waking c y.phase) (is_waking c y.phase) wake_kept (λ k. k) h);
      sleeps = λ off h. h;
    }

    raise_still : is_same_bell c b ≡ false → has (is_raise c) before ≡ true → has (is_raise c) after ≡ true
    raise_still other h = by (raise_kept h)
      where
        by : (has (is_raise c) after ≡ true) ⊎ ((is_same_bell c b ≡ true) × (has (is_look c) after ≡ true)) → has (is_raise c) after ≡ true
        by (inl e) = e
        by (inr e) = absurd (cc (other, e.0))

    kept_still : is_same_bell c b ≡ false → is_sound y ≡ true → Kept (w.asleep c) (w.asleep c) false (Some c w (λ u. u.owes)) (AreWoken c w rung) (stand c w.rings (owing before y))
        (stand_at c (rung.rings c) (owing after y))
    kept_still other sound = subst (λ n. Kept (w.asleep c) (w.asleep c) false (Some c w (λ u. u.owes)) (AreWoken c w rung) (stand c w.rings (owing before y)) (stand_at c n (owing after y)))
        (sym (with_other_bell b c (w.rings b + 1) w.rings other))
        (kept_woken c w rung (duty_done c w y before after (raise_still other) (λ one. look_kept) (λ off h. inl (wake_kept h)) sound).kept)

    abbrev Goal : Bool → Type 0
    Goal rose = Kept (w.asleep c) (w.asleep c) rose (Some c w (λ u. u.owes)) (AreWoken c w rung) (stand c w.rings (owing before y)) (stand c rung.rings (owing after y))

    up_kept : is_sound y ≡ true → KeptUp c (owing before y) (owing after y)
    up_kept sound = by (is_same_bell c b) refl
      where
        by : (same : Bool) → is_same_bell c b ≡ same → Goal (is_same_bell c b)
        by true e = subst Goal (sym e) (kept_risen e)
        by false e = subst Goal (sym e) (kept_still e sound)

  all_risen : (c : BellName) (p : ℕ) → KeptUp c (seat_numbered w p) (seat_numbered rung p)
  all_risen c = by_seat (λ p y. KeptUp c (seat_numbered w p) y) w i (owing new z) is.0
      (subst (λ y. KeptUp c y (owing new z)) (sym is.1) (up_kept c z old new (seen_was w holds i (owing old z) is c) raise_kept (looking c) (waking_one c) (sound_was w holds i (owing old z) is)))
      (λ p. up_kept c (seat_numbered w p) (seat_numbered w p).duties (seat_numbered w p).duties (holds.seen c p) (λ h. inl h) (λ h. h) (λ h. h) (holds.sound p))
    where
      by : (same : Bool) → is_same_bell c b ≡ same → has (is_raise c) old ≡ true → (has (is_raise c) new ≡ true) ⊎ ((is_same_bell c b ≡ true) × (has (is_look c) new ≡ true))
      by true e h = inr (e, looks_now c e)
      by false e h = inl (raising c e h)

      raise_kept : has (is_raise c) old ≡ true → (has (is_raise c) new ≡ true) ⊎ ((is_same_bell c b ≡ true) × (has (is_look c) new ≡ true))
      raise_kept = by (is_same_bell c b) refl

  seen_still : (c : BellName) (p : ℕ) → (seat_numbered rung p).seen c ≤ w.rings c
  seen_still c = by_seat (λ p y. y.seen c ≤ w.rings c) w i (owing new z) is.0 (seen_was w holds i (owing old z) is c) (holds.seen c)

  none_fresh : (c : BellName) → is_same_bell c b ≡ true → (p : ℕ) → (stand_of c rung p).fresh ≡ true → ⊥
  none_fresh c same p h = let e = (and_parts (rests_early c (seat_numbered rung p).phase) (eqb ((seat_numbered rung p).seen c) (rung.rings c)) h).1 in absurd
      (cc (e, unseen c same ((seat_numbered rung p).seen c) (seen_still c p)))

  pub up_holds : Holds rung
  up_holds = record {
    sound = by_seat (λ p y. is_sound y ≡ true) w i (owing new z) is.0 (sound_was w holds i (owing old z) is) holds.sound;
    seen = λ c p. let h = seen_still c p in let k = rings_up c in omega (arith, h, k);
    bells = λ c. still_holds c w rung (is_same_bell c b) (holds.bells c) (none_fresh c) (all_risen c) (λ off on. absurd (cc)) (λ on off. absurd (cc));
  }
