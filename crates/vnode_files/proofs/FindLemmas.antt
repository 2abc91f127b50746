-- What a search through a list finds.
use Rattle.std.specs.Prelude.{ℕ, zero, suc, ◌≡◌, ◌<◌, ◌-◌, Bool, true, false, List, [], ◌∷◌, length, slice_index_or, slice_get, Some, None, is_some, ◌||◌}
use Rattle.std.specs.List.{find, last_or, list_any}
use Rattle.std.proofs.Math.Bool.{or-true}
use Rattle.std.proofs.Common.{ap, ◌∙◌, sym, arith, refl, cond}

-- the first that passes, where none before it does
pub find-first : {X : Type 0} (p : X → Bool) (xs : List X) (i : ℕ) (d : X) → i < length xs → ((k : ℕ) → k < i → p (slice_index_or xs k d) ≡ false)
    → p (slice_index_or xs i d) ≡ true → find p xs ≡ Some (slice_index_or xs i d)
find-first p [] i d h none is = absurd (omega arith)
find-first p (x ∷ xs) zero d h none is = ap (λ b. cond b (Some x) (find p xs)) is
find-first p (x ∷ xs) (suc i) d h none is =
    ap (λ b. cond b (Some x) (find p xs)) (none 0 (omega arith)) ∙ find-first p xs i d (omega arith) (λ k lower. none (suc k) (omega arith)) is

-- where none passes there is none
pub find-none : {X : Type 0} (p : X → Bool) (xs : List X) (d : X) → ((k : ℕ) → k < length xs → p (slice_index_or xs k d) ≡ false) → find p xs ≡ None
find-none p [] d none = refl
find-none p (x ∷ xs) d none =
    ap (λ b. cond b (Some x) (find p xs)) (none 0 (omega arith)) ∙ find-none p xs d (λ k lower. none (suc k) (omega arith))

-- a last element by its place
pub last-get : {X : Type 0} (xs : List X) (k : ℕ) → suc k ≡ length xs → slice_get xs k ≡ last_or None xs
last-get [] k h = absurd (omega arith)
last-get (x ∷ []) zero h = refl
last-get (x ∷ []) (suc k) h = absurd (omega arith)
last-get (x ∷ y ∷ xs) zero h = absurd (omega arith)
last-get (x ∷ y ∷ xs) (suc k) h = last-get (y ∷ xs) k (omega arith)

pub last-is : {X : Type 0} (xs : List X) → slice_get xs (length xs - 1) ≡ last_or None xs
last-is [] = refl
last-is (x ∷ xs) = last-get (x ∷ xs) (length (x ∷ xs) - 1) (omega arith)

pub find-agree : {X : Type 0} (p q : X → Bool) → ((x : X) → p x ≡ q x) → (xs : List X) → find p xs ≡ find q xs
find-agree p q same [] = refl
find-agree p q same (x ∷ xs) = ap (λ b. cond b (Some x) (find p xs)) (same x) ∙ ap (λ o. cond (q x) (Some x) o) (find-agree p q same xs)

-- what is found passes
pub find-passes : {X : Type 0} (p : X → Bool) (xs : List X) (e : X) → find p xs ≡ Some e → p e ≡ true
find-passes p [] e is = cc
find-passes {X} p (x ∷ xs) e is =
    elim (p x) as (λ b. p x ≡ b → cond b (Some x) (find p xs) ≡ Some e → p e ≡ true) [
      | true ↦ λ t s. let same : x ≡ e = cc in ap p (sym same) ∙ t
      | false ↦ λ t s. find-passes p xs e s
    ] refl is

-- what is found stands in the list: what it passes some element passes
pub any-found : {X : Type 0} (p q : X → Bool) (xs : List X) (e : X) → find p xs ≡ Some e → q e ≡ true → list_any q xs ≡ true
any-found p q [] e is passes = cc
any-found {X} p q (x ∷ xs) e is passes =
    elim (p x) as (λ b. cond b (Some x) (find p xs) ≡ Some e → (q x || list_any q xs) ≡ true) [
      | true ↦ λ s. let same : x ≡ e = cc in ap (λ (y : X). q y || list_any q xs) same ∙ ap (λ b. b || list_any q xs) passes
      | false ↦ λ s. ap (λ b. q x || b) (any-found p q xs e s passes) ∙ or-true (q x)
    ] is

-- some element passes exactly where one is found
pub any-find : {X : Type 0} (p : X → Bool) (xs : List X) → list_any p xs ≡ is_some (find p xs)
any-find p [] = refl
any-find {X} p (x ∷ xs) =
    elim (p x) as (λ b. (b || list_any p xs) ≡ is_some (cond b (Some x) (find p xs))) [ true ↦ refl | false ↦ any-find p xs ]
