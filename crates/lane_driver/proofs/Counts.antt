-- AT MOST SO MANY have this, and one fewer where one is lost and none is added.
use Rattle.std.proofs.Common.{◌≡◌, ◌≢◌, ℕ, zero, suc, ◌<◌, ◌≤◌, ◌-◌, List, [], ◌∷◌, length, refl, sym, ap, ◌∙◌, ◌⊎◌, inl, inr, arith}
use Rattle.std.proofs.lemmas.Bool.{cases_eq}

abbrev pub Among : {A : Type 0} → List A → A → Type 0
Among [] x = ⊥
Among (y ∷ ys) x = (y ≡ x) ⊎ Among ys x

-- at most so many things have this
pub record AtMost {A : Type 0} (n : ℕ) (has : A → Type 0) : Type 0 where
  pub list : List A
  pub few : length list ≤ n
  pub all : (x : A) → has x → Among list x

some-among : {A : Type 0} (ys : List A) (x : A) → Among ys x → 1 ≤ length ys
some-among [] x has = absurd has
some-among (y ∷ ys) x has = omega arith

pub at-most-some : {A : Type 0} (n : ℕ) (P : A → Type 0) (x : A) → AtMost n P → P x → 1 ≤ n
at-most-some n P x most has = let some = some-among most.list x (most.all x has) in let few = most.few in omega (arith, some, few)

pub at-most-fewer : {A : Type 0} (n : ℕ) (P Q : A → Type 0) → AtMost n P → ((x : A) → Q x → P x) → AtMost n Q
at-most-fewer n P Q most still = record { list = most.list; few = most.few; all = λ x q. most.all x (still x q) }

module _ {A : Type 0} (decide : (x y : A) → (x ≡ y) ⊎ (x ≢ y)) where
  abbrev without : List A → A → List A
  without [] x = []
  without (y ∷ ys) x = elim (decide y x) [ inl e ↦ ys | inr ne ↦ y ∷ without ys x ]

  shorter : (ys : List A) (x : A) → Among ys x → suc (length (without ys x)) ≡ length ys
  shorter [] x has = absurd has
  shorter (y ∷ ys) x has = by_test (decide y x) has (λ more. shorter ys x more)
    where
      by_test : (d : (y ≡ x) ⊎ (y ≢ x)) → (y ≡ x) ⊎ Among ys x → (Among ys x → suc (length (without ys x)) ≡ length ys) → suc (length {A = A} (elim d [ inl e ↦ ys | inr ne ↦ y ∷ without ys x ])) ≡ suc (length ys)
      by_test (inl e) has rest = refl
      by_test (inr ne) (inl e) rest = absurd (ne e)
      by_test (inr ne) (inr more) rest = ap suc (rest more)

  still-among : (ys : List A) (x k : A) → Among ys k → k ≢ x → Among (without ys x) k
  still-among [] x k has ne = absurd has
  still-among (y ∷ ys) x k has ne = by_test (decide y x) has (λ more. still-among ys x k more ne)
    where
      by_test : (d : (y ≡ x) ⊎ (y ≢ x)) → (y ≡ k) ⊎ Among ys k → (Among ys k → Among (without ys x) k) → Among (elim d [ inl e ↦ ys | inr other ↦ y ∷ without ys x ]) k
      by_test (inl e) (inl is) rest = absurd (ne (sym is ∙ e))
      by_test (inl e) (inr more) rest = more
      by_test (inr other) (inl is) rest = inl is
      by_test (inr other) (inr more) rest = inr (rest more)

  -- ONE FEWER
  pub at-most-falls : (n : ℕ) (P Q : A → Type 0) (x : A) → AtMost n P → P x → ((k : A) → Q k → P k × (k ≢ x)) → AtMost (n - 1) Q
  at-most-falls n P Q x most has falls =
      let short = shorter most.list x (most.all x has) in
      let few = most.few in
      record {
        list = without most.list x;
        few = omega (arith, short, few);
        all = λ k q. let p = falls k q in still-among most.list x k (most.all k p.0) p.1;
      }

-- the numbers below one
abbrev below : ℕ → List ℕ
below zero = []
below (suc n) = n ∷ below n

length-below : (n : ℕ) → length (below n) ≡ n
length-below zero = refl
length-below (suc n) = ap suc (length-below n)

below-has : (n k : ℕ) → k < n → Among (below n) k
below-has zero k lt = absurd (omega (arith, lt))
below-has (suc n) k lt = elim (cases_eq n k) [ inl e ↦ inl e | inr ne ↦ inr (below-has n k (omega (arith, lt, ne))) ]

pub at-most-below : (n : ℕ) (P : ℕ → Type 0) → ((k : ℕ) → P k → k < n) → AtMost n P
at-most-below n P low = record { list = below n; few = let e = length-below n in omega (arith, e); all = λ k p. below-has n k (low k p) }
