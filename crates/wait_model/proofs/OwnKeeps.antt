-- Each step of one seat keeps what holds of each bell: row by row, a test of all values.
use Rattle.std.proofs.Common.{◌≡◌, ◌⊎◌, inl, inr, ℕ, zero, suc, get_or, Bool, true, false, not, ◌&&◌, ◌||◌, List, [], ◌∷◌, ◌++◌, refl, sym, ap, subst}
use Rattle.std.proofs.Math.Dec.{eqb}
use Rattle.std.proofs.lemmas.Bool.{and_from, and_parts, eq-eqb, or_cases, or_left, or_right}
use Rattle.std.specs.List.{list_all}
use Rattle.wait_model.specs.Bells.{BellName, leaves, changes, files, is_same_bell, ByBell, Duty, look, swap, wake, swap_for_all, ring, wake_one}
use Rattle.wait_model.specs.Waiting.{RestStage, comparing, announcing, comparing_again, parking, sleeping, waking, Phase, idle, gone, waits, tries, inside, out, rests, Errand, quick, turns, file_turns, open_turns, is_by_turns, is_for_file, is_open, is_inside, sleeps_on, WaitingSeat, Waiting, seat_at, owing, seat_numbered, never_rang, OfNone}
use Rattle.wait_model.specs.OwnSteps.{three_bells, OwnStep, begins_hit, begins_move, begins_turns, begins_file, ends, begins_wait, reads, enters, is_refused, is_refused_later, hits, accesses, misses, misses_again, sends, sends_first, performs, ends_call, ends_part, ends_file_call, meets_busy, meets_file_busy, moves, ends_flight, compares, compares_again, sees_rise, sees_rise_again, parks, parks_not, wakes_early, looks, looks_in_vain, swaps_in_vain, swaps_for_all_in_vain, wakes_none, told_of_file, told_of_end}
use Rattle.wait_model.proofs.Tests.{implies, implied, of_bools, of_bool, of_bells, of_bell, of_errands, of_errand, or_more, same_bell}
use Rattle.wait_model.proofs.Stands.{Stand, stand, stand_by, has, is_raise, is_look, is_wake, is_sound, is_sound_at, will_ring, is_on_way, is_waking, rests_early}
use Rattle.wait_model.proofs.Keeping.{Kept, Some, NobodySleeps}
use Rattle.wait_model.proofs.Tables.{is_kept, kept_by}

-- where the word is a
pub record KeptAt (c : BellName) (w : Waiting) (a : Bool) (x y : WaitingSeat) : Type 0 where
  pub sound : is_sound y ≡ true
  pub kept : Kept a a false (Some c w (λ u. u.owes)) (NobodySleeps c w) (stand c w.rings x) (stand c w.rings y)

abbrev pub OwnKept : BellName → Waiting → WaitingSeat → WaitingSeat → Type 0
OwnKept c w x y = KeptAt c w (w.asleep c) x y

-- a seat to a bell, with a test for the count that it saw
abbrev pub seen_as : BellName → Bool → List Duty → Phase → Errand → Bool → Stand
seen_as c q ds phase e h = stand_by c q (has (is_raise c) ds) (has (is_look c) ds) (has (is_wake c) ds) phase e h

-- of all bells, words, and comparisons of the count with the number seen
abbrev pub each : (BellName → Bool → Bool → Bool) → Bool
each f = of_bells (λ c. of_bools (λ a. of_bools (λ q. f c a q)))

pub at_each : (f : BellName → Bool → Bool → Bool) → each f ≡ true → (c : BellName) (a q : Bool) → f c a q ≡ true
at_each f is c a q = of_bool (λ q. f c a q) (of_bool (λ a. of_bools (λ q. f c a q)) (of_bell (λ c. of_bools (λ a. of_bools (λ q. f c a q))) is c) a) q

-- and of all errands, with a transfer in hand and without
abbrev pub every : (Errand → Bool → BellName → Bool → Bool → Bool) → Bool
every f = of_errands (λ e. of_bools (λ h. each (f e h)))

pub at_every : (f : Errand → Bool → BellName → Bool → Bool → Bool) → every f ≡ true → (e : Errand) (h : Bool) (c : BellName) (a q : Bool) → f e h c a q ≡ true
at_every f is e h = at_each (f e h) (of_bool (λ h. each (f e h)) (of_errand (λ e. of_bools (λ h. each (f e h))) is e) h)

-- a step from one place to another keeps what holds
abbrev pub keeps : Bool → Bool → Phase → Errand → Bool → List Duty → Phase → Errand → Bool → BellName → Bool → Bool → Bool
keeps guard other from e h ds to f i c a q = implies (guard && is_sound_at from e h) (is_sound_at to f i && is_kept a other false (seen_as c q [] from e h) (seen_as c q ds to f i))

module _ (c : BellName) (w : Waiting) where
  row : (a : Bool) (v : ByBell ℕ) (guard other : Bool) (from : Phase) (e : Errand) (h : Bool) (ds : List Duty) (to : Phase) (f : Errand) (i : Bool)
      → keeps guard other from e h ds to f i c a (eqb (v c) (w.rings c)) ≡ true
      → guard ≡ true → (other ≡ true → Some c w (λ u. u.owes)) → is_sound_at from e h ≡ true → KeptAt c w a (seat_at from e h v) (owing ds (seat_at to f i v))
  row a v guard other from e h ds to f i table ok is_other sound =
      let both = implied (guard && is_sound_at from e h) _ table (and_from guard (is_sound_at from e h) ok sound) in
      record {
        sound = (and_parts (is_sound_at to f i) _ both).0;
        kept = kept_by a other false (Some c w (λ u. u.owes)) (NobodySleeps c w) is_other (λ no. absurd (cc)) (stand c w.rings (seat_at from e h v))
            (stand c w.rings (owing ds (seat_at to f i v))) ((and_parts (is_sound_at to f i) _ both).1);
      }

  none_else : {A : Type 0} → false ≡ true → A
  none_else h = absurd (cc)

  -- with one errand
  pub plain : (v : ByBell ℕ) (from : Phase) (e : Errand) (h : Bool) (ds : List Duty) (to : Phase) (f : Errand) (i : Bool) → each (keeps true false from e h ds to f i) ≡ true
      → is_sound_at from e h ≡ true → OwnKept c w (seat_at from e h v) (owing ds (seat_at to f i v))
  plain v from e h ds to f i table = row (w.asleep c) v true false from e h ds to f i (at_each (keeps true false from e h ds to f i) table c (w.asleep c) (eqb (v c) (w.rings c))) refl none_else

  -- with each
  any : (v : ByBell ℕ) (g : Errand → Bool → Bool) (from : Phase) (ds : Errand → List Duty) (to : Phase) (f : Errand → Errand) (i : Bool → Bool) → every
      (λ e h. keeps (g e h) false from e h (ds e) to (f e) (i h)) ≡ true → (e : Errand) (h : Bool) → g e h ≡ true
      → is_sound_at from e h ≡ true → OwnKept c w (seat_at from e h v) (owing (ds e) (seat_at to (f e) (i h) v))
  any v g from ds to f i table e h ok = row (w.asleep c) v (g e h) false from e h (ds e) to (f e) (i h)
      (at_every (λ e h. keeps (g e h) false from e h (ds e) to (f e) (i h)) table e h c (w.asleep c) (eqb (v c) (w.rings c))) ok none_else

  inside_owes : (k : ℕ) → (seat_numbered w k).phase ≡ inside → is_same_bell c leaves ≡ true → Some c w (λ u. u.owes)
  inside_owes k is same = subst (λ b. Some b w (λ u. u.owes)) (sym (same_bell c leaves same))
      (k, or_right (has (is_raise leaves) (seat_numbered w k).duties) (is_inside (seat_numbered w k).phase) (ap is_inside is))

  holder_owes : (k : ℕ) → (seat_numbered w k).in_hand ≡ true → is_same_bell c changes ≡ true → Some c w (λ u. u.owes)
  holder_owes k is same = subst (λ b. Some b w (λ u. u.owes)) (sym (same_bell c changes same)) (k, or_right (has (is_raise changes) (seat_numbered w k).duties) (seat_numbered w k).in_hand is)

  opener_owes : (k : ℕ) → is_open (seat_numbered w k).errand ≡ true → is_same_bell c files ≡ true → Some c w (λ u. u.owes)
  opener_owes k is same = subst (λ b. Some b w (λ u. u.owes)) (sym (same_bell c files same)) (k, or_right (has (is_raise files) (seat_numbered w k).duties) (is_open (seat_numbered w k).errand) is)

  -- held up by another: e is the errand before and behind
  refused : (v : ByBell ℕ) (e : Errand) (h : Bool) (k : ℕ) → (seat_numbered w k).phase ≡ inside → is_sound_at tries e h ≡ true → OwnKept c w (seat_at tries e h v)
      (seat_at (rests leaves comparing) e h v)
  refused v e h k is = row (w.asleep c) v true (is_same_bell c leaves) tries e h [] (rests leaves comparing) e h
      (at_every (λ e h c. keeps true (is_same_bell c leaves) tries e h [] (rests leaves comparing) e h c) refl e h c (w.asleep c) (eqb (v c) (w.rings c))) refl (inside_owes k is)

  busy : (v : ByBell ℕ) (e : Errand) (k : ℕ) → is_by_turns e ≡ true → (seat_numbered w k).in_hand ≡ true → is_sound_at inside e false ≡ true → OwnKept c w (seat_at inside e false v)
      (owing (ring leaves) (seat_at (rests changes comparing) e false v))
  busy v e k ok is = row (w.asleep c) v (is_by_turns e && not false) (is_same_bell c changes) inside e false (ring leaves) (rests changes comparing) e false
      (at_every (λ e h c. keeps (is_by_turns e && not h) (is_same_bell c changes) inside e h (ring leaves) (rests changes comparing) e h c) refl e false c (w.asleep c)
      (eqb (v c) (w.rings c))) (and_from (is_by_turns e) (not false) ok refl) (holder_owes k is)

  file_busy : (v : ByBell ℕ) (k : ℕ) → is_open (seat_numbered w k).errand ≡ true → OwnKept c w (seat_at inside file_turns false v)
      (owing (ring leaves ++ wake_one changes) (seat_at (rests files comparing) file_turns false v))
  file_busy v k is = row (w.asleep c) v true (is_same_bell c files) inside file_turns false (ring leaves ++ wake_one changes) (rests files comparing) file_turns false
      (at_each (λ c. keeps true (is_same_bell c files) inside file_turns false (ring leaves ++ wake_one changes) (rests files comparing) file_turns false c) refl c (w.asleep c)
      (eqb (v c) (w.rings c))) refl (opener_owes k is) refl

  -- a rest on the bell b goes on
  pub rest_at : (a : Bool) (v : ByBell ℕ) (g : BellName → BellName → Bool → Bool → Bool) (stage : RestStage) (to : BellName → Phase) → of_bells
      (λ b. every (λ e h c a q. keeps (g b c a q) false (rests b stage) e h [] (to b) e h c a q)) ≡ true
      → (b : BellName) (e : Errand) (h : Bool) → g b c a (eqb (v c) (w.rings c)) ≡ true → is_sound_at (rests b stage) e h ≡ true → KeptAt c w a (seat_at (rests b stage) e h v) (seat_at (to b) e h v)
  rest_at a v g stage to table b e h ok = row a v (g b c a (eqb (v c) (w.rings c))) false (rests b stage) e h [] (to b) e h
      (at_every (λ e h c a q. keeps (g b c a q) false (rests b stage) e h [] (to b) e h c a q)
      (of_bell (λ b. every (λ e h c a q. keeps (g b c a q) false (rests b stage) e h [] (to b) e h c a q)) table b) e h c a (eqb (v c) (w.rings c))) ok none_else

  -- what holds at the bell b, where c is that bell
  pub at_bell : (f : ByBell Bool) (b : BellName) → f b ≡ true → implies (is_same_bell c b) (f c) ≡ true
  at_bell f b is = by (is_same_bell c b) refl
    where
      by : (same : Bool) → is_same_bell c b ≡ same → implies same (f c) ≡ true
      by false e = refl
      by true e = subst (λ x. f x ≡ true) (sym (same_bell c b e)) is

  -- a duty is done
  module _ (x : WaitingSeat) (old new : List Duty) (raising : has (is_raise c) old ≡ true → has (is_raise c) new ≡ true)
      (looking : w.asleep c ≡ true → has (is_look c) old ≡ true → has (is_look c) new ≡ true)
      (waking_one : w.asleep c ≡ false → has (is_wake c) old ≡ true → (has (is_wake c) new ≡ true) ⊎ NobodySleeps c w) (sound : is_sound x ≡ true) where
    pub duty_done : OwnKept c w (owing old x) (owing new x)
    duty_done =
        let will = will_ring c x.phase x.errand x.in_hand in
        let rest = (is_on_way c x.phase x.errand || is_waking c x.phase) || (rests_early c x.phase && not (eqb (x.seen c) (w.rings c))) in
        record {
          sound = sound;
          kept = record {
            owes = λ still. or_more (has (is_raise c) old) (has (is_raise c) new) will will raising (λ h. h);
            fresh = λ still h. inl h;
            answers = λ one now h. inl (or_more (has (is_raise c) old || will) (has (is_raise c) new || will) (has (is_look c) old || rest) (has (is_look c) new || rest)
                (or_more (has (is_raise c) old) (has (is_raise c) new) will will raising (λ h. h)) (or_more (has (is_look c) old) (has (is_look c) new) rest rest (looking one) (λ h. h)) h);
            deep = λ h. inl h;
            wakes = λ off h. by off (or_cases (has (is_wake c) old) (is_waking c x.phase) h);
            sleeps = λ off h. h;
          };
        }
      where
        found : (has (is_wake c) new ≡ true) ⊎ NobodySleeps c w → ((has (is_wake c) new || is_waking c x.phase) ≡ true) ⊎ NobodySleeps c w
        found (inl h) = inl (or_left (has (is_wake c) new) (is_waking c x.phase) h)
        found (inr h) = inr h

        by : w.asleep c ≡ false → (has (is_wake c) old ≡ true) ⊎ (is_waking c x.phase ≡ true) → ((has (is_wake c) new || is_waking c x.phase) ≡ true) ⊎ NobodySleeps c w
        by off (inl h) = found (waking_one off h)
        by off (inr h) = inl (or_right (has (is_wake c) new) (is_waking c x.phase) h)

  -- the word of the bell b is 0, so that nobody waits for a look at it
  in_vain : (b : BellName) (r : Bool) → w.asleep b ≡ false → w.asleep c ≡ true → (is_same_bell c b || r) ≡ true → r ≡ true
  in_vain b r off one h = by (or_cases (is_same_bell c b) r h)
    where
      by : (is_same_bell c b ≡ true) ⊎ (r ≡ true) → r ≡ true
      by (inl same) = let e = subst (λ x. w.asleep x ≡ false) (sym (same_bell c b same)) off in absurd (cc)
      by (inr h) = h

  pub nobody : (b : BellName) (r : Bool) → NobodySleeps b w → (is_same_bell c b || r) ≡ true → (r ≡ true) ⊎ NobodySleeps c w
  nobody b r none h = by (or_cases (is_same_bell c b) r h)
    where
      by : (is_same_bell c b ≡ true) ⊎ (r ≡ true) → (r ≡ true) ⊎ NobodySleeps c w
      by (inl same) = inr (subst (λ x. NobodySleeps x w) (sym (same_bell c b same)) none)
      by (inr h) = inl h

of_each_seat : (test : Phase → Bool) (xs : List WaitingSeat) (d : WaitingSeat) → not (test d.phase) ≡ true → list_all (λ (seat : WaitingSeat). not (test seat.phase)) xs ≡ true → (p : ℕ)
    → not (test (get_or xs p d).phase) ≡ true
of_each_seat test [] d last all p = last
of_each_seat test (x ∷ xs) d last all zero = (and_parts (not (test x.phase)) _ all).0
of_each_seat test (x ∷ xs) d last all (suc p) = of_each_seat test xs d last ((and_parts (not (test x.phase)) _ all).1) p

pub nobody_sleeps : (b : BellName) (w : Waiting) → OfNone (sleeps_on b) w → NobodySleeps b w
nobody_sleeps b w none p is = let h = of_each_seat (sleeps_on b) w.seats (seat_at gone quick false never_rang) refl none p in absurd (cc (h, is))

pub own_keeps : (c : BellName) (w : Waiting) {x y : WaitingSeat} → OwnStep three_bells w x y → is_sound x ≡ true → OwnKept c w x y
own_keeps c w (begins_hit {v = v}) s = plain c w v idle quick false [] tries quick false refl s
own_keeps c w (begins_move {v = v}) s = plain c w v idle quick false [] tries quick false refl s
own_keeps c w (begins_turns {v = v}) s = plain c w v idle quick false [] tries turns false refl s
own_keeps c w (begins_file {v = v}) s = plain c w v idle quick false [] tries file_turns false refl s
own_keeps c w (ends {v = v}) s = plain c w v idle quick false [] gone quick false refl s
own_keeps c w (begins_wait {n = n} {v = v}) s = plain c w v idle quick false [] (waits n) quick false refl s
own_keeps c w (reads bell {e = e} {h = h} {v = v}) s = let k = any c w v (λ e h. true) tries (λ e. []) tries (λ e. e) (λ h. h) refl e h refl s in record { sound = k.sound; kept = k.kept }
own_keeps c w (enters {e = e} {h = h} {v = v} free) s = any c w v (λ e h. true) tries (λ e. []) inside (λ e. e) (λ h. h) refl e h refl s
own_keeps c w (is_refused k {e = e} {h = h} {v = v} is) s = refused c w v e h k is s
own_keeps c w (is_refused_later k {v = v} is) s = plain c w v tries quick false [] tries turns false refl s
own_keeps c w (hits {v = v}) s = plain c w v inside quick false (ring leaves) idle quick false refl s
own_keeps c w (accesses {v = v}) s = plain c w v inside turns false (ring leaves ++ wake_one changes) idle quick false refl s
own_keeps c w (misses {v = v}) s = plain c w v inside quick false (ring leaves) tries turns false refl s
own_keeps c w (misses_again {v = v}) s = plain c w v inside turns false (ring leaves) tries turns false refl s
own_keeps c w (sends {e = e} {v = v}) s = any c w v (λ e h. true) inside (λ e. ring leaves) out (λ e. e) (λ h. true) refl e false refl s
own_keeps c w (sends_first {v = v}) s = plain c w v inside quick false (ring leaves) out turns true refl s
own_keeps c w (performs {e = e} {v = v}) s = any c w v (λ e h. true) out (λ e. []) tries (λ e. e) (λ h. h) refl e true refl s
own_keeps c w (ends_call {v = v}) s = plain c w v inside turns false (ring leaves ++ ring changes) idle quick false refl s
own_keeps c w (ends_part {e = e} {v = v} file) s = any c w v (λ e h. is_for_file e) inside (λ e. ring leaves ++ ring changes) tries (λ e. open_turns) (λ h. false) refl e false file s
own_keeps c w (ends_file_call {e = e} {v = v} file) s = any c w v (λ e h. is_for_file e) inside (λ e. ring leaves ++ told_of_file three_bells) idle (λ e. quick) (λ h. false) refl e false file s
own_keeps c w (meets_busy k {e = e} {v = v} turning is) s = busy c w v e k turning is s
own_keeps c w (meets_file_busy k {v = v} is) s = file_busy c w v k is
own_keeps c w (moves {e = e} {v = v} turning) s = any c w v (λ e h. is_by_turns e) inside (λ e. ring leaves ++ ring changes) tries (λ e. e) (λ h. false) refl e true turning s
own_keeps c w (ends_flight {e = e} {v = v}) s = any c w v (λ e h. true) inside (λ e. ring leaves ++ told_of_end three_bells e) idle (λ e. quick) (λ h. false) refl e true refl s
own_keeps c w (compares b {e = e} {h = h} {v = v} same) s = rest_at c w (w.asleep c) v (λ b c a q. true) comparing (λ b. rests b announcing) refl b e h refl s
own_keeps c w (compares_again b {e = e} {h = h} {v = v} same) s = rest_at c w (w.asleep c) v (λ b c a q. implies (is_same_bell c b) q) comparing_again (λ b. rests b parking) refl b e h
    (at_bell c w (λ b. eqb (v b) (w.rings b)) b (eq-eqb (v b) (w.rings b) same)) s
own_keeps c w (sees_rise b {e = e} {h = h} {v = v} other) s = rest_at c w (w.asleep c) v (λ b c a q. true) comparing (λ b. tries) refl b e h refl s
own_keeps c w (sees_rise_again b {e = e} {h = h} {v = v} other) s = rest_at c w (w.asleep c) v (λ b c a q. true) comparing_again (λ b. tries) refl b e h refl s
own_keeps c w (parks b {e = e} {h = h} {v = v} one) s = rest_at c w (w.asleep c) v (λ b c a q. implies (is_same_bell c b) a) parking (λ b. rests b sleeping) refl b e h (at_bell c w w.asleep b one) s
own_keeps c w (parks_not b {e = e} {h = h} {v = v} off) s = rest_at c w (w.asleep c) v (λ b c a q. true) parking (λ b. rests b waking) refl b e h refl s
own_keeps c w (wakes_early b {e = e} {h = h} {v = v}) s = rest_at c w (w.asleep c) v (λ b c a q. true) sleeping (λ b. rests b waking) refl b e h refl s
own_keeps c w (looks b {ds = ds} x one) s = duty_done c w x (look b ∷ ds) (swap b ∷ ds) (λ h. h) (λ one h. h) (λ off h. inl h) s
own_keeps c w (looks_in_vain b {ds = ds} x off) s = duty_done c w x (look b ∷ ds) ds (λ h. h) (in_vain c w b (has (is_look c) ds) off) (λ off h. inl h) s
own_keeps c w (swaps_in_vain b {ds = ds} x off) s = duty_done c w x (swap b ∷ ds) ds (λ h. h) (in_vain c w b (has (is_look c) ds) off) (λ off h. inl h) s
own_keeps c w (swaps_for_all_in_vain b {ds = ds} x off) s = duty_done c w x (swap_for_all b ∷ ds) ds (λ h. h) (in_vain c w b (has (is_look c) ds) off) (λ off h. inl h) s
own_keeps c w (wakes_none b {ds = ds} x none) s = duty_done c w x (wake b ∷ ds) ds (λ h. h) (λ one h. h) (λ off. nobody c w b (has (is_wake c) ds) (nobody_sleeps b w none)) s
