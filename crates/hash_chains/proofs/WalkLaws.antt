-- A walk down a chain, from place to place, for the loops of the crates above.
use Rattle.std.proofs.Common.{◌≡◌, ℕ, ◌<◌, inl, inr, Bool, true, false, cond, Option, Some, None, List, [], ◌∷◌, refl, sym, ◌∙◌, ap, length, arith}
use Rattle.std.specs.Prelude.{◌==◌, ◌||◌, IfSome}
use Rattle.std.specs.List.{IsDistinct}
use Rattle.std.proofs.lemmas.Bool.{cases_Bool, or_cases, or_right, eqb-true, eq-eqb, ne_eqb}
use Rattle.hash_chains.specs.Order.{is_among, first_in, after_in, rest_from}
use Rattle.hash_chains.specs.Links.{before_in}
use Rattle.hash_chains.proofs.LinkLemmas.{all-differs, among-tail}

-- a walk stands at a place of the chain, or at its end
abbrev pub IsOn : List ℕ → Option ℕ → Type 0
IsOn chain at = IfSome at (λ p. is_among p chain ≡ true)

pub walk-start : (xs : List ℕ) → IsOn xs (first_in xs)
walk-start [] = tt
walk-start (x ∷ xs) = ap (λ (b : Bool). b || is_among x xs) (eq-eqb x x refl)

pub rest-first : (xs : List ℕ) → rest_from (first_in xs) xs ≡ xs
rest-first [] = refl
rest-first (x ∷ xs) = ap (λ (b : Bool). cond b (x ∷ xs) (rest_from (Some x) xs)) (eq-eqb x x refl)

behind : (x : ℕ) (xs : List ℕ) (at : Option ℕ) → IsOn xs at → IsOn (x ∷ xs) at
behind x xs None on = tt
behind x xs (Some q) on = or_right (q == x) (is_among q xs) on

skipped : (x : ℕ) (xs : List ℕ) (at : Option ℕ) → is_among x xs ≡ false → IsOn xs at → rest_from at (x ∷ xs) ≡ rest_from at xs
skipped x xs None off on = refl
skipped x xs (Some q) off on = ap (λ (b : Bool). cond b (x ∷ xs) (rest_from (Some q) xs)) (ne_eqb x q (λ e. let z : true ≡ false = sym on ∙ ap (λ (k : ℕ). is_among k xs) (sym e) ∙ off in cc))

-- one step of a walk
pub record WalkStep (xs : List ℕ) (p : ℕ) : Type 0 where
  pub is : rest_from (Some p) xs ≡ p ∷ rest_from (after_in p xs) xs
  pub on : IsOn xs (after_in p xs)

pub walk-step : (xs : List ℕ) (p : ℕ) → IsDistinct (λ (x y : ℕ). x == y) xs → is_among p xs ≡ true → WalkStep xs p
unfolding IsDistinct
walk-step [] p d h = let z : false ≡ true = h in cc
walk-step (x ∷ xs) p d h = elim (cases_Bool (x == p)) [
  | inl t ↦ let e = ap (λ (b : Bool). cond b (first_in xs) (after_in p xs)) t in record {
    is = ap (λ (b : Bool). cond b (x ∷ xs) (rest_from (Some p) xs)) t ∙ ap (λ (k : ℕ). k ∷ xs) (eqb-true x p t)
        ∙ ap (λ (l : List ℕ). p ∷ l) (sym (ap (λ (a : Option ℕ). rest_from a (x ∷ xs)) e ∙ skipped x xs (first_in xs) (all-differs x xs d.0) (walk-start xs) ∙ rest-first xs));
    on = rw e (behind x xs (first_in xs) (walk-start xs));
  }
  | inr f ↦ let e = ap (λ (b : Bool). cond b (first_in xs) (after_in p xs)) f in let s = walk-step xs p d.1 (among-tail p x xs f h) in record {
    is = ap (λ (b : Bool). cond b (x ∷ xs) (rest_from (Some p) xs)) f ∙ s.is
        ∙ ap (λ (l : List ℕ). p ∷ l) (sym (ap (λ (a : Option ℕ). rest_from a (x ∷ xs)) e ∙ skipped x xs (after_in p xs) (all-differs x xs d.0) s.on));
    on = rw e (behind x xs (after_in p xs) s.on);
  }
]

pub walk-falls : (xs : List ℕ) (p : ℕ) → IsDistinct (λ (x y : ℕ). x == y) xs → is_among p xs ≡ true → length (rest_from (after_in p xs) xs) < length (rest_from (Some p) xs)
walk-falls xs p d h = let e = ap (λ (l : List ℕ). length l) (walk-step xs p d h).is in omega arith

pub first-none : (xs : List ℕ) → first_in xs ≡ None → (k : ℕ) → is_among k xs ≡ false
first-none [] e k = refl
first-none (x ∷ xs) e k = let z : Some x ≡ None = e in cc

-- a walk that looks for a place: none that it has passed is one
pub record Hunts (xs : List ℕ) (test : ℕ → Bool) (at : Option ℕ) : Type 0 where
  pub on : IsOn xs at
  pub ahead : (k : ℕ) → is_among k xs ≡ true → test k ≡ true → is_among k (rest_from at xs) ≡ true

pub hunt-start : (xs : List ℕ) (test : ℕ → Bool) → Hunts xs test (first_in xs)
hunt-start xs test = record { on = walk-start xs; ahead = λ k h t. ap (is_among k) (rest-first xs) ∙ h }

pub hunt-step : (xs : List ℕ) (test : ℕ → Bool) (p : ℕ) → IsDistinct (λ (x y : ℕ). x == y) xs → Hunts xs test (Some p) → test p ≡ false → Hunts xs test (after_in p xs)
hunt-step xs test p d h missed = let s = walk-step xs p d h.on in record {
  on = s.on;
  ahead = λ k on t. elim (or_cases (k == p) (is_among k (rest_from (after_in p xs) xs)) (ap (is_among k) (sym s.is) ∙ h.ahead k on t)) [
    | inl q ↦ let z : true ≡ false = sym t ∙ ap test (eqb-true k p q) ∙ missed in cc
    | inr r ↦ r
  ];
}

pub hunt-end : (xs : List ℕ) (test : ℕ → Bool) → Hunts xs test None → (k : ℕ) → (test k ≡ true → is_among k xs ≡ true) → test k ≡ false
hunt-end xs test h k on = elim (cases_Bool (test k)) [
  | inl t ↦ let z : false ≡ true = h.ahead k (on t) t in cc
  | inr f ↦ f
]

-- a walk towards a place of the chain, with the place before
pub record Seeks (xs : List ℕ) (place : ℕ) (before at : Option ℕ) : Type 0 where
  pub on : IsOn xs at
  pub has : is_among place (rest_from at xs) ≡ true
  pub same : before_in before place (rest_from at xs) ≡ before_in None place xs

pub seek-start : (xs : List ℕ) (place : ℕ) → is_among place xs ≡ true → Seeks xs place None (first_in xs)
seek-start xs place h = record { on = walk-start xs; has = ap (is_among place) (rest-first xs) ∙ h; same = ap (before_in None place) (rest-first xs) }

pub seek-found : (xs : List ℕ) (place : ℕ) (before : Option ℕ) → IsDistinct (λ (x y : ℕ). x == y) xs → Seeks xs place before (Some place) → before ≡ before_in None place xs
seek-found xs place before d s = sym (ap (before_in before place) (walk-step xs place d s.on).is ∙ ap
    (λ (b : Bool). cond b before (before_in (Some place) place (rest_from (after_in place xs) xs))) (eq-eqb place place refl)) ∙ s.same

pub seek-step : (xs : List ℕ) (place other : ℕ) (before : Option ℕ) → IsDistinct (λ (x y : ℕ). x == y) xs → (other ≡ place → ⊥)
    → Seeks xs place before (Some other) → Seeks xs place (Some other) (after_in other xs)
seek-step xs place other before d ne s =
    let t = walk-step xs other d s.on in
    let differs = ne_eqb other place ne in
    record {
      on = t.on;
      has = among-tail place other (rest_from (after_in other xs) xs) differs (ap (is_among place) (sym t.is) ∙ s.has);
      same = sym (ap (before_in before place) t.is ∙ ap (λ (b : Bool). cond b before (before_in (Some other) place (rest_from (after_in other xs) xs))) differs) ∙ s.same;
    }
