-- Entries of a finite map in the order of their keys: which keys are found, and which values pass a test.
use Rattle.flat_model.proofs.Ranges.{eqb-apart}
use Rattle.std.proofs.Common.{◌≡◌, ℕ, ◌+◌, ◌<◌, ◌≤◌, Bool, true, false, cond, ◌&&◌, ◌||◌, T, eqb, List, [], ◌∷◌, map, Some, None, refl, sym, ap, ◌∙◌, inl, inr, arith, Less, Equal, Greater}
use Rattle.std.specs.Prelude.{nat_lt}
use Rattle.std.specs.List.{list_any}
use Rattle.std.specs.Ordering.{nat_cmp, is_lt}
use Rattle.std.specs.Cmp.{unsigned_tied}
use Rattle.std.specs.FinMap as finite
use Rattle.std.specs.FinMap.{is_sorted}
use Rattle.std.specs.FinMap.Entries.{below_all}
use Rattle.std.proofs.lemmas.Bool.{cases_eq, ltb-true, eqb-true, eq-eqb}

-- the keys rise, from a on
abbrev pub Above : {X : Type 0} → ℕ → List (ℕ × X) → Type 0
Above a [] = Unit {0}
Above a (e ∷ es) = (a ≤ e.0) × Above (e.0 + 1) es

-- a key that isn't the first is looked for in the rest
pub find_rest : {X : Type 0} (q : ℕ) (e : ℕ × X) (es : List (ℕ × X)) → (q ≡ e.0 → ⊥) → finite.find nat_cmp q (e ∷ es) ≡ finite.find nat_cmp q es
find_rest q e es apart = rw (unsigned_tied, eqb-apart q e.0 apart) refl

-- below the keys nothing is found
pub find_below : {X : Type 0} (q a : ℕ) (es : List (ℕ × X)) → q < a → Above a es → finite.find nat_cmp q es ≡ None
find_below q a [] lt above = refl
find_below q a (e ∷ es) lt above = find_rest q e es (λ is. omega (arith, above.0)) ∙ find_below q (e.0 + 1) es (omega (arith, above.0)) above.1

less_is : (x y : ℕ) → T (is_lt (nat_cmp x y)) → x < y
less_is x y h = elim (nat_lt x y) as (λ b. nat_lt x y ≡ b → T (is_lt (cond b Less (cond (eqb x y) Equal Greater))) → x < y) [
  | true ↦ λ is h. ltb-true x y is
  | false ↦ λ is h. absurd (elim (eqb x y) as (λ b. T (is_lt (cond b Equal Greater)) → ⊥) [ true ↦ λ h. h | false ↦ λ h. h ] h)
] refl h

both_hold : (a b : Bool) → T (a && b) → (T a) × (T b)
both_hold true b h = (tt, h)
both_hold false b h = absurd h

-- the first key is not below a
abbrev pub StartsAt : {X : Type 0} → ℕ → List (ℕ × X) → Type 0
StartsAt a [] = Unit {0}
StartsAt a (e ∷ es) = a ≤ e.0

starts_above : {X : Type 0} (x : ℕ) (es : List (ℕ × X)) → T (below_all nat_cmp x es) → StartsAt (x + 1) es
starts_above x [] h = tt
starts_above x (e ∷ es) h = let lt = less_is x e.0 (both_hold _ _ h).0 in omega arith

pub rising : {X : Type 0} (a : ℕ) (es : List (ℕ × X)) → T (is_sorted nat_cmp es) → StartsAt a es → Above a es
rising a [] sorted start = tt
rising a (e ∷ es) sorted start = let h = both_hold _ _ sorted in (start, rising (e.0 + 1) es h.1 (starts_above e.0 es h.0))

pub first_found : {X : Type 0} (e : ℕ × X) (es : List (ℕ × X)) → finite.find nat_cmp e.0 (e ∷ es) ≡ Some e.1
first_found e es = rw (unsigned_tied, eq-eqb e.0 e.0 refl) refl

starts_at_0 : {X : Type 0} (es : List (ℕ × X)) → StartsAt 0 es
starts_at_0 [] = tt
starts_at_0 (e ∷ es) = omega arith

-- the entries of a map rise
pub Above-entries : {X : Type 0} (m : finite.FinMap nat_cmp X) → Above 0 (finite.entries m)
Above-entries m = rising 0 (finite.entries m) (finite.entries_sorted m) (starts_at_0 (finite.entries m))

any_found : {X : Type 0} (t : X → Bool) (es : List (ℕ × X)) (q : ℕ) (v : X) → finite.find nat_cmp q es ≡ Some v → t v ≡ true → list_any t (map (λ e. e.1) es) ≡ true
any_found t [] q v found is = absurd cc
any_found t (e ∷ es) q v found is = elim (cases_eq q e.0) [
  | inl here ↦ let same : e.1 ≡ v = let both : Some e.1 ≡ Some v = sym (first_found e es) ∙ ap (λ k. finite.find nat_cmp k (e ∷ es)) (sym here) ∙ found in cc in rw (same, is) refl
  | inr apart ↦ or_right (t e.1) (list_any t (map (λ e. e.1) es)) (any_found t es q v (sym (find_rest q e es apart) ∙ found) is)
]
  where
    or_right : (a b : Bool) → b ≡ true → (a || b) ≡ true
    or_right true b is = refl
    or_right false b is = is

some_found : {X : Type 0} (t : X → Bool) (a : ℕ) (es : List (ℕ × X)) → Above a es → list_any t (map (λ e. e.1) es) ≡ true → (q : ℕ) × (v : X) × (finite.find nat_cmp q es ≡ Some v) × (t v ≡ true)
some_found t a [] above is = absurd cc
some_found t a (e ∷ es) above is = elim (t e.1) as (λ b. t e.1 ≡ b → (b || list_any t (map (λ e. e.1) es)) ≡ true → (q : ℕ) × (v : _) × (finite.find nat_cmp q (e ∷ es) ≡ Some v) × (t v ≡ true)) [
  | true ↦ λ here _. (e.0, e.1, first_found e es, here)
  | false ↦ λ _ rest.
      let r = some_found t (e.0 + 1) es above.1 rest in
      let apart : r.0 ≡ e.0 → ⊥ = λ same. absurd (let none = find_below r.0 (e.0 + 1) es (omega arith) above.1 in let both : None ≡ Some r.1 = sym none ∙ r.2 in cc) in
      (r.0, r.1, find_rest r.0 e es apart ∙ r.2, r.3)
] refl is

-- a value that passes makes some value pass
pub any_value : {X : Type 0} (t : X → Bool) (m : finite.FinMap nat_cmp X) (q : ℕ) (v : X) → finite.get m q ≡ Some v → t v ≡ true → list_any t (finite.values m) ≡ true
any_value t m q v at is = any_found t (finite.entries m) q v (sym (finite.get-entries m q) ∙ at) is

-- where some value passes there is one, with its key
pub value_of_any : {X : Type 0} (t : X → Bool) (m : finite.FinMap nat_cmp X) → list_any t (finite.values m) ≡ true → (q : ℕ) × (v : X) × (finite.get m q ≡ Some v) × (t v ≡ true)
value_of_any t m is = let r = some_found t 0 (finite.entries m) (Above-entries m) is in (r.0, r.1, finite.get-entries m r.0 ∙ r.2, r.3)
