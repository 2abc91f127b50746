-- The places of the pool, its free places and its hand.
use Rattle.std.proofs.Common.{◌≡◌, ℕ, ◌+◌, ◌-◌, ◌<◌, ◌≤◌, ◌^◌, inl, inr, Bool, true, false, cond, Option, Some, None, List, [], ◌∷◌, ◌++◌, refl, sym, ◌∙◌, ap}
use Rattle.std.proofs.Common.{subst, length, get_or, set, arith, zero, suc, length-append}
use Rattle.std.specs.Prelude.{map, ◌==◌, replicate, option_and_then, find, is_some, Contains}
use Rattle.std.specs.List.{list_any, list_all}
use Rattle.std.proofs.lemmas.List.{get_or-set_same, get_or-set_other, get_or_append_left, get_or_push, get_or_default, length-replicate}
use Rattle.std.proofs.lemmas.List.Elements.{Contains-append_left, Contains-get_or, Contains-push, Contains-push_cases}
use Rattle.std.proofs.lemmas.List.Folds.{find_past}
use Rattle.std.proofs.lemmas.Map.Steps.{length-le_from_distinct_below}
use Rattle.std.proofs.lemmas.Map.Keys.{IsDistinct-from_apart}
use Rattle.std.proofs.Math.ListN.{length-set}
use Rattle.std.proofs.lemmas.Bool.{cases_eq, cases_lt, and_from, eqb-true, eq-eqb, ne_eqb, cases_Bool, or_cases}
use Rattle.hat_layer.specs.declared.translation.Translation.{Translation}
use Rattle.hat_layer.specs.Pool.{HatSeen, IsSingleValued, fresh_translation, holds, is_of, translation_at, dropped_by_load, hand_after}
use Rattle.hat_layer.specs.Table.{FindsHeld}
use Rattle.hash_chains.proofs.LinkLemmas.{at-replicate}
use Rattle.hash_chains.proofs.OwnerLaws.{some-within}
use Rattle.hat_layer.proofs.FrameLemmas.{map-fixed, map-one}
use Rattle.hat_layer.specs.Free.{IsSoundHat, TakesPlace, countdown}

Cells : Type 0
Cells = List (Option Translation)

-- the map from pages at what a search found
pub at-none : (places : List (Option Translation)) (space page : ℕ) → ((k : ℕ) → holds space page (get_or places k None) ≡ false) → translation_at places space page ≡ None
at-none [] space page h = refl
at-none (o ∷ os) space page h = ap (λ (b : Bool). option_and_then (λ (o : Option Translation). o)
    (cond b (Some o) (find (λ (o : Option Translation). holds space page o) os))) (h zero) ∙ at-none os space page (λ k. h (suc k))

pub at-held : (places : List (Option Translation)) (space page k : ℕ) (t : Translation) → get_or places k None ≡ Some t → is_of space page t ≡ true
    → ((j : ℕ) → holds space page (get_or places j None) ≡ true → j ≡ k) → translation_at places space page ≡ Some t
at-held [] space page k t e is one = let z : None ≡ Some t = e in cc
at-held (o ∷ os) space page zero t e is one =
    ap (λ (b : Bool). option_and_then (λ (o : Option Translation). o) (cond b (Some o) (find (λ (o : Option Translation). holds space page o) os)))
    (ap (λ (o : Option Translation). holds space page o) e ∙ is) ∙ e
at-held (o ∷ os) space page (suc k) t e is one = elim (cases_Bool (holds space page o)) [
  | inl h ↦ let z : zero ≡ suc k = one zero h in absurd (omega arith)
  | inr h ↦ ap (λ (b : Bool). option_and_then (λ (o : Option Translation). o) (cond b (Some o) (find (λ (o : Option Translation). holds space page o) os))) h
      ∙ at-held os space page k t e is (λ j g. let z : suc j ≡ suc k = one (suc j) g in omega arith)
]

-- a change of the one place that holds the page, and none where no place does
pub changes-held : (h : Option Translation → Option Translation) (places : List (Option Translation)) (space page k : ℕ) (t : Translation)
    → get_or places k None ≡ Some t → is_of space page t ≡ true → ((j : ℕ) → holds space page (get_or places j None) ≡ true → j ≡ k) →
    map (λ (o : Option Translation). cond (holds space page o) (h o) o) places ≡ set places k (h (Some t))
changes-held h places space page k t e is one =
    map-one (λ (o : Option Translation). cond (holds space page o) (h o) o) places k (λ j ne. elim (cases_Bool (holds space page (get_or places j None))) [
      | inl g ↦ absurd (ne (one j g))
      | inr g ↦ ap (λ (b : Bool). cond b (h (get_or places j None)) (get_or places j None)) g
    ])
    ∙ ap (λ (x : Option Translation). set places k x) (ap (λ (o : Option Translation). cond (holds space page o) (h o) o) e ∙ ap (λ (b : Bool). cond b (h (Some t)) (Some t)) is)

pub changes-none : (h : Option Translation → Option Translation) (places : List (Option Translation)) (space page : ℕ)
    → ((k : ℕ) → holds space page (get_or places k None) ≡ false) → map (λ (o : Option Translation). cond (holds space page o) (h o) o) places ≡ places
changes-none h places space page none = map-fixed (λ (o : Option Translation). cond (holds space page o) (h o) o) places
    (λ k. ap (λ (b : Bool). cond b (h (get_or places k None)) (get_or places k None)) (none k))

-- whether the pool is full
full-true : (places : List (Option Translation)) → ((k : ℕ) → k < length places → get_or places k None ≡ None → ⊥) → list_all (λ (o : Option Translation). is_some o) places ≡ true
full-true [] h = refl
full-true (None ∷ os) h = absurd (h zero (omega arith) refl)
full-true (Some t ∷ os) h = full-true os (λ k lt. h (suc k) (omega arith))

full-false : (places : List (Option Translation)) (k : ℕ) → k < length places → get_or places k None ≡ None → list_all (λ (o : Option Translation). is_some o) places ≡ false
full-false [] k lt e = absurd (omega arith)
full-false (None ∷ os) k lt e = refl
full-false (Some t ∷ os) zero lt e = let z : Some t ≡ None = e in cc
full-false (Some t ∷ os) (suc k) lt e = full-false os k (omega arith) e

module _ (places : List (Option Translation)) (room hand : ℕ) where
  -- a place gets a translation, and is off the stack
  hat-filled : (free free' : List ℕ) (hand' place : ℕ) (new : Translation) → IsSoundHat places free room hand → place < length places → hand' < length places
      → length free' ≤ length free → ((i : ℕ) → i < length free' → get_or free' i 0 ≡ get_or free i 0)
      → ((i : ℕ) → i < length free' → get_or free i 0 ≡ place → ⊥) → ((k : ℕ) → Contains free k → (k ≡ place → ⊥) → Contains free' k) → IsSoundHat (set places place (Some new)) free' room hand'
  hat-filled free free' hand' place new h lt in_ shorter same off kept = let n = length-set places place (let x : Option Translation = Some new in x) in record {
    hand_in = omega arith;
    few = let a = h.few in omega arith;
    room_for_all = let a = h.room_for_all in omega arith;
    within = λ i l. let a = h.within i (omega arith) in let e = same i l in omega arith;
    empty = λ i l. ap (λ (k : ℕ). get_or (set places place (Some new)) k None) (same i l) ∙ get_or-set_other places place (get_or free i 0) (Some new) None (off i l) ∙ h.empty i (omega arith);
    all = λ k l e. elim (cases_eq k place) [
      | inl q ↦ let z : Some new ≡ None = sym (get_or-set_same places place (Some new) None lt) ∙ subst (λ (k : ℕ). get_or (set places place (Some new)) k None ≡ None) q e in cc
      | inr ne ↦ kept k (h.all k (omega arith) (sym (get_or-set_other places place k (Some new) None ne) ∙ e)) ne
    ];
    apart = λ i j l lj q. h.apart i j l (omega arith) (sym (same i (omega arith)) ∙ q ∙ same j lj);
  }

  -- a place that has a translation gets another
  pub hat-some : (free : List ℕ) (place : ℕ) (old new : Translation) → IsSoundHat places free room hand → get_or places place None ≡ Some old → IsSoundHat (set places place (Some new)) free room hand
  hat-some free place old new h is = hat-filled free free hand place new h (some-within places place old is) h.hand_in (omega arith) (λ i l. refl)
      (λ i l q. let z : None ≡ Some old = sym (h.empty i l) ∙ subst (λ (k : ℕ). get_or places k None ≡ Some old) (sym q) is in cc) (λ k c ne. c)

  -- a place off the stack gets a translation
  pub hat-popped : (free : List ℕ) (place : ℕ) (new : Translation) → IsSoundHat places (free ++ place ∷ []) room hand → IsSoundHat (set places place (Some new)) free room hand
  hat-popped free place new h =
      let m = length-append free (place ∷ []) in
      let last : length free < length (free ++ place ∷ []) = omega arith in
      hat-filled (free ++ place ∷ []) free hand place new h (subst (λ (k : ℕ). k < length places) (get_or_push free place 0 (length free) refl)
      (h.within (length free) last)) h.hand_in (omega arith) (λ i l. sym (get_or_append_left free (place ∷ []) 0 i l))
      (λ i l q. h.apart i (length free) l last (q ∙ sym (get_or_push free place 0 (length free) refl)))
      (λ k c ne. elim (Contains-push_cases free place k c) [ inl on ↦ on | inr q ↦ absurd (ne (sym q)) ])

  -- the place at the hand of a full pool gets a translation
  pub hat-turned : (hand' : ℕ) (new : Translation) → IsSoundHat places [] room hand → hand' < length places → IsSoundHat (set places hand (Some new)) [] room hand'
  hat-turned hand' new h in_ = hat-filled [] [] hand' hand new h h.hand_in in_ (omega arith) (λ i l. refl) (λ i l q. absurd (omega arith)) (λ k c ne. c)

  -- a place is emptied, and goes onto the stack
  pub hat-pushed : (free : List ℕ) (room' place : ℕ) (old : Translation) → IsSoundHat places free room hand → get_or places place None ≡ Some old
      → room ≤ room' → IsSoundHat (set places place None) (free ++ place ∷ []) room' hand
  hat-pushed free room' place old h is more =
      let n = length-set places place (let x : Option Translation = None in x) in
      let m = length-append free (place ∷ []) in
      let lt = some-within places place old is in
      let here = get_or-set_same places place (let x : Option Translation = None in x) None lt in
      record {
        hand_in = let a = h.hand_in in omega arith;
        few = let a = h.few in omega arith;
        room_for_all = let a = h.room_for_all in omega arith;
        within = λ i l. elim (cases_lt i (length free)) [
          | inl front ↦ let a = h.within i front in let b = get_or_append_left free (place ∷ []) 0 i front in omega arith
          | inr back ↦ let q : i ≡ length free = omega arith in let b = ap (λ (i : ℕ). get_or (free ++ place ∷ []) i 0) q ∙ get_or_push free place 0 (length free) refl in omega arith
        ];
        empty = λ i l. elim (cases_lt i (length free)) [
          | inl front ↦ subst (λ (k : ℕ). get_or (set places place None) k None ≡ None) (sym (get_or_append_left free (place ∷ []) 0 i front)) (elim (cases_eq (get_or free i 0) place) [
            | inl q ↦ subst (λ (k : ℕ). get_or (set places place None) k None ≡ None) (sym q) here
            | inr ne ↦ get_or-set_other places place (get_or free i 0) None None ne ∙ h.empty i front
          ])
          | inr back ↦ let q : i ≡ length free = omega arith in subst (λ (k : ℕ). get_or (set places place None) k None ≡ None)
              (sym (ap (λ (i : ℕ). get_or (free ++ place ∷ []) i 0) q ∙ get_or_push free place 0 (length free) refl)) here
        ];
        all = λ k l e. elim (cases_eq k place) [
          | inl q ↦ subst (λ (j : ℕ). Contains (free ++ place ∷ []) j) (sym q) (Contains-push free place)
          | inr ne ↦ Contains-append_left free (place ∷ []) k (h.all k (omega arith) (sym (get_or-set_other places place k None None ne) ∙ e))
        ];
        apart = λ i j l lj q.
            let fi : i < length free = omega arith in
            let a = sym (get_or_append_left free (place ∷ []) 0 i fi) ∙ q in
            elim (cases_lt j (length free)) [
              | inl front ↦ h.apart i j l front (a ∙ get_or_append_left free (place ∷ []) 0 j front)
              | inr back ↦
                  let qj : j ≡ length free = omega arith in
                  let b : get_or free i 0 ≡ place = a ∙ ap (λ (i : ℕ). get_or (free ++ place ∷ []) i 0) qj ∙ get_or_push free place 0 (length free) refl in
                  let z : None ≡ Some old = sym (h.empty i fi) ∙ subst (λ (k : ℕ). get_or places k None ≡ Some old) (sym b) is in cc
            ];
      }

-- fewer places are free than there are, where one has a translation
any-below : (xs : List ℕ) (n q : ℕ) → ((i : ℕ) → i < length xs → get_or xs i 0 < n) → list_any (λ (x : ℕ). q == x) xs ≡ true → q < n
any-below [] n q h e = let z : false ≡ true = e in cc
any-below (x ∷ xs) n q h e = elim (or_cases (q == x) (list_any (λ (x : ℕ). q == x) xs) e) [
  | inl t ↦ let a = eqb-true q x t in let b = h zero (omega arith) in omega arith
  | inr t ↦ any-below xs n q (λ i lt. h (suc i) (omega arith)) t
]

pub hat-room : (places : List (Option Translation)) (free : List ℕ) (room hand place : ℕ) (old : Translation) → IsSoundHat places free room hand
    → get_or places place None ≡ Some old → length free < room
hat-room places free room hand place old h is =
    let lt = some-within places place old is in
    let all : List ℕ = place ∷ free in
    let below : (i : ℕ) → i < length all → get_or all i 0 < length places = λ i l. at_ i l in
    let apart : (i j d : ℕ) → i < j → j < length all → (get_or all i d == get_or all j d) ≡ false = λ i j d l lj. two i j d l lj in
    let n = length-le_from_distinct_below all (length places) (IsDistinct-from_apart (λ (x y : ℕ). x == y) all apart) (λ q e. any-below all (length places) q below e) in
    let r = h.room_for_all in omega arith
  where
    at_ : (i : ℕ) → i < length (place ∷ free) → get_or (place ∷ free) i 0 < length places
    at_ zero l = some-within places place old is
    at_ (suc i) l = h.within i (omega arith)

    two : (i j d : ℕ) → i < j → j < length (place ∷ free) → (get_or (place ∷ free) i d == get_or (place ∷ free) j d) ≡ false
    two i zero d l lj = absurd (omega arith)
    two zero (suc j) d l lj = ne_eqb place (get_or free j d) (λ q. let z : None ≡ Some old = sym (h.empty j (omega arith)) ∙ subst
        (λ (k : ℕ). get_or places k None ≡ Some old) (q ∙ get_or_default free j d 0 (omega arith)) is in cc)
    two (suc i) (suc j) d l lj = ne_eqb (get_or free i d) (get_or free j d)
        (λ q. h.apart i j (omega arith) (omega arith) (sym (get_or_default free i d 0 (omega arith)) ∙ q ∙ get_or_default free j d 0 (omega arith)))

-- what a load takes
due-of : (pool : HatSeen) (space page : ℕ) (a : Option Translation) (f : Bool) → translation_at pool.places space page ≡ a
    → list_all (λ (o : Option Translation). is_some o) pool.places ≡ f → dropped_by_load pool space page ≡ cond (is_some a) a (cond f (get_or pool.places pool.hand None) None)
due-of pool space page a f e g = ap (λ (a : Option Translation). cond (is_some a) a
    (cond (list_all (λ (o : Option Translation). is_some o) pool.places) (get_or pool.places pool.hand None) None)) e
    ∙ ap (λ (f : Bool). cond (is_some a) a (cond f (get_or pool.places pool.hand None) None)) g

hand-of : (pool : HatSeen) (space page : ℕ) (a : Option Translation) (f : Bool) → translation_at pool.places space page ≡ a
    → list_all (λ (o : Option Translation). is_some o) pool.places ≡ f
    → hand_after pool space page ≡ cond (is_some a) pool.hand (cond f (cond (pool.hand + 1 == length pool.places) 0 (pool.hand + 1)) pool.hand)
hand-of pool space page a f e g = ap (λ (a : Option Translation). cond (is_some a) pool.hand
    (cond (list_all (λ (o : Option Translation). is_some o) pool.places) (cond (pool.hand + 1 == length pool.places) 0 (pool.hand + 1)) pool.hand)) e
    ∙ ap (λ (f : Bool). cond (is_some a) pool.hand (cond f (cond (pool.hand + 1 == length pool.places) 0 (pool.hand + 1)) pool.hand)) g

pub choose-held : (pool : HatSeen) (free : List ℕ) (room space page : ℕ) (r : ℕ × Translation) → IsSoundHat pool.places free room pool.hand
    → IsSingleValued pool.places → FindsHeld pool.places space page (Some r) → TakesPlace pool free room pool.hand space page r.0
choose-held pool free room space page r h d f =
    let a = at-held pool.places space page r.0 r.1 f.0 f.1 f.2 in
    record {
      within = some-within pool.places r.0 r.1 f.0;
      distinct = d;
      alone = λ k ne. elim (cases_Bool (holds space page (get_or pool.places k None))) [ inl t ↦ absurd (ne (f.2 k t)) | inr z ↦ z ];
      gives = f.0 ∙ sym (due-of pool space page (Some r.1) (list_all (λ (o : Option Translation). is_some o) pool.places) a refl);
      turns = sym (hand-of pool space page (Some r.1) (list_all (λ (o : Option Translation). is_some o) pool.places) a refl);
      fits = λ new. hat-some pool.places room pool.hand free r.0 r.1 new h f.0;
    }

pub choose-free : (pool : HatSeen) (free : List ℕ) (room space page place : ℕ) → IsSoundHat pool.places (free ++ place ∷ []) room pool.hand
    → IsSingleValued pool.places → FindsHeld pool.places space page None → TakesPlace pool free room pool.hand space page place
choose-free pool free room space page place h d f =
    let a = at-none pool.places space page f in
    let m = length-append free (place ∷ []) in
    let last : length free < length (free ++ place ∷ []) = omega arith in
    let lt : place < length pool.places = subst (λ (k : ℕ). k < length pool.places) (get_or_push free place 0 (length free) refl) (h.within (length free) last) in
    let e : get_or pool.places place None ≡ None = subst (λ (k : ℕ). get_or pool.places k None ≡ None) (get_or_push free place 0 (length free) refl) (h.empty (length free) last) in
    let full = full-false pool.places place lt e in
    record {
      within = lt;
      distinct = d;
      alone = λ k ne. f k;
      gives = e ∙ sym (due-of pool space page None false a full);
      turns = sym (hand-of pool space page None false a full);
      fits = λ new. hat-popped pool.places room pool.hand free place new h;
    }

pub choose-hand : (pool : HatSeen) (room hand' space page : ℕ) → IsSoundHat pool.places [] room pool.hand → IsSingleValued pool.places
    → FindsHeld pool.places space page None → hand' ≡ cond (pool.hand + 1 == length pool.places) 0 (pool.hand + 1) → TakesPlace pool [] room hand' space page pool.hand
choose-hand pool room hand' space page h d f e =
    let a = at-none pool.places space page f in
    let lt = h.hand_in in
    let full = full-true pool.places (λ k l z. let on = h.all k l z in let within = on.1 in omega arith) in
    record {
      within = lt;
      distinct = d;
      alone = λ k ne. f k;
      gives = sym (due-of pool space page None true a full);
      turns = e ∙ sym (hand-of pool space page None true a full);
      fits = λ new. hat-turned pool.places room pool.hand hand' new h (elim (cases_eq (pool.hand + 1) (length pool.places)) [
        | inl q ↦ let z : hand' ≡ 0 = e ∙ ap (λ (b : Bool). cond b 0 (pool.hand + 1)) (eq-eqb (pool.hand + 1) (length pool.places) q) in omega arith
        | inr ne ↦ let z : hand' ≡ pool.hand + 1 = e ∙ ap (λ (b : Bool). cond b 0 (pool.hand + 1)) (ne_eqb (pool.hand + 1) (length pool.places) ne) in omega arith
      ]);
    }

-- the free places of an empty pool
length-countdown : (n : ℕ) → length (countdown n) ≡ n
length-countdown zero = refl
length-countdown (suc n) = ap suc (length-countdown n)

countdown-at : (n i : ℕ) → i < n → get_or (countdown n) i 0 + i + 1 ≡ n
countdown-at zero i lt = absurd (omega arith)
countdown-at (suc n) zero lt = omega arith
countdown-at (suc n) (suc i) lt = let a = countdown-at n i (omega arith) in omega arith

pub hat-new : (pool room : ℕ) → 0 < pool → pool < 2 ^ 32 → pool ≤ room → IsSoundHat (replicate pool None) (countdown pool) room 0
hat-new pool room some few all =
    let n = length-replicate pool (let z : Option Translation = None in z) in
    let m = length-countdown pool in
    record {
      hand_in = omega arith;
      few = omega arith;
      room_for_all = omega arith;
      within = λ i l. let a = countdown-at pool i (omega arith) in omega arith;
      empty = λ i l. at-replicate pool (get_or (countdown pool) i 0) None;
      all = λ k l e. let a = countdown-at pool (pool - (k + 1)) (omega arith) in
          subst (λ (j : ℕ). Contains (countdown pool) j) (omega arith) (Contains-get_or (countdown pool) (pool - (k + 1)) 0 (omega arith));
      apart = λ i j l lj q. let a = countdown-at pool i (omega arith) in let b = countdown-at pool j (omega arith) in omega arith;
    }

pub hat-made : (pool room : ℕ) (places : List (Option Translation)) (free : List ℕ) → places ≡ replicate pool None → free ≡ countdown pool → 0 < pool
    → pool < 2 ^ 32 → pool ≤ room → IsSoundHat places free room 0
hat-made pool room places free p f some few all =
    subst (λ (p : List (Option Translation)). IsSoundHat p free room 0) (sym p) (subst (λ (f : List ℕ). IsSoundHat (replicate pool None) f room 0) (sym f) (hat-new pool room some few all))

pub falls-one : (n : ℕ) → 0 < n → (n - 1) ∷ countdown (n - 1) ≡ countdown n
falls-one zero lt = absurd (omega arith)
falls-one (suc n) lt = let e : suc n - 1 ≡ n = omega arith in ap (λ (k : ℕ). k ∷ countdown k) e

-- what a load leaves at its own page, and at all others
module _ (pool : HatSeen) (free' : List ℕ) (room hand' space page place : ℕ) (c : TakesPlace pool free' room hand' space page place) (frame : ℕ) (writable : Bool) where
  own : is_of space page (fresh_translation space page frame writable) ≡ true
  own = and_from (space == space) (page == page) (eq-eqb space space refl) (eq-eqb page page refl)

  pub load-own : translation_at (set pool.places place (Some (fresh_translation space page frame writable))) space page ≡ Some (fresh_translation space page frame writable)
  load-own = at-held (set pool.places place (Some (fresh_translation space page frame writable))) space page place
      (fresh_translation space page frame writable) (get_or-set_same pool.places place (Some (fresh_translation space page frame writable)) None c.within) own
      (λ j h. elim (cases_eq j place) [
        | inl q ↦ q
        | inr ne ↦ let z : true ≡ false = sym h ∙ ap (λ (o : Option Translation). holds space page o)
            (get_or-set_other pool.places place j (Some (fresh_translation space page frame writable)) None ne) ∙ c.alone j ne in cc
      ])

  other : (s p : ℕ) → is_of s p (fresh_translation space page frame writable) ≡ false → (k : ℕ) → k ≡ place
      → holds s p (get_or (set pool.places place (Some (fresh_translation space page frame writable))) k None) ≡ false
  other s p differs k q = subst (λ (k : ℕ). holds s p (get_or (set pool.places place (Some (fresh_translation space page frame writable))) k None) ≡ false) (sym q)
      (ap (λ (o : Option Translation). holds s p o) (get_or-set_same pool.places place (Some (fresh_translation space page frame writable)) None c.within) ∙ differs)

  pub load-kept : (s p : ℕ) → is_of s p (fresh_translation space page frame writable) ≡ false → holds s p (dropped_by_load pool space page) ≡ false
      → translation_at (set pool.places place (Some (fresh_translation space page frame writable))) s p ≡ translation_at pool.places s p
  load-kept s p differs kept = ap (λ (o : Option (Option Translation)). option_and_then (λ (o : Option Translation). o) o)
      (find_past (λ (o : Option Translation). holds s p o) pool.places place (Some (fresh_translation space page frame writable)) None
      (ap (λ (o : Option Translation). holds s p o) c.gives ∙ kept) differs)

  pub load-gone : (s p : ℕ) → is_of s p (fresh_translation space page frame writable) ≡ false → holds s p (dropped_by_load pool space page) ≡ true
      → translation_at (set pool.places place (Some (fresh_translation space page frame writable))) s p ≡ None
  load-gone s p differs gone = at-none (set pool.places place (Some (fresh_translation space page frame writable))) s p (λ k. elim (cases_eq k place) [
    | inl q ↦ other s p differs k q
    | inr ne ↦ elim (cases_Bool (holds s p (get_or pool.places k None))) [
      | inl t ↦ absurd (ne (c.distinct k place s p t (ap (λ (o : Option Translation). holds s p o) c.gives ∙ gone)))
      | inr f ↦ ap (λ (o : Option Translation). holds s p o) (get_or-set_other pool.places place k (Some (fresh_translation space page frame writable)) None ne) ∙ f
    ]
  ])
