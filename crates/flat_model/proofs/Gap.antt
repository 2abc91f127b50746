-- The lowest gap: it is free, it fits, no lower one does, and where there is none no gap fits.
use Rattle.std.proofs.Common.{◌≡◌, ◌⊎◌, ℕ, ◌+◌, ◌<◌, ◌≤◌, Bool, true, false, cond, leb, List, [], ◌∷◌, Option, Some, None, refl, ◌∙◌, inl, inr, arith}
use Rattle.std.specs.Ordering.{nat_cmp}
use Rattle.std.specs.Cmp.{unsigned_tied}
use Rattle.std.specs.FinMap as finite
use Rattle.std.proofs.lemmas.Bool.{cases_lt, cases_eq, leb-true, eq-eqb, leb-false}
use Rattle.flat_model.specs.Flat.{Cell, Space}
use Rattle.flat_model.specs.Space.{end_page, lowest_gap_from, lowest_gap}
use Rattle.flat_model.proofs.Entries.{Above, Above-entries, StartsAt, find_rest, find_below, first_found, rising}
use Rattle.flat_model.specs.SpaceLaws.{IsUser, IsFree, LowestGap}

test_some : (t : Bool) (a b : ℕ) (r : Option ℕ) → cond t (Some a) r ≡ Some b → ((t ≡ true) × (a ≡ b)) ⊎ ((t ≡ false) × (r ≡ Some b))
test_some true a b r is = inl (refl, cc)
test_some false a b r is = inr (refl, is)

pub test_none : (t : Bool) (a : ℕ) (r : Option ℕ) → cond t (Some a) r ≡ None → (t ≡ false) × (r ≡ None)
test_none true a r is = absurd cc
test_none false a r is = (refl, is)

-- the gap is not below where the search begins
gap_later : (a n b : ℕ) (es : List (ℕ × Cell)) → Above a es → lowest_gap_from a n es ≡ Some b → a ≤ b
gap_later a n b [] above is = elim (test_some (leb (a + n) end_page) a b None is) [ inl h ↦ omega (arith, h.1) | inr h ↦ absurd (let f = h.1 in cc) ]
gap_later a n b (e ∷ es) above is = elim (test_some (leb (a + n) e.0) a b (lowest_gap_from (e.0 + 1) n es) is) [ inl h ↦ omega (arith, h.1) | inr h ↦ omega (arith, above.0, gap_later (e.0 + 1) n b es above.1 h.1) ]

-- the pages of the gap are free
gap_free : (a n b q : ℕ) (es : List (ℕ × Cell)) → Above a es → lowest_gap_from a n es ≡ Some b → b ≤ q → q < b + n → finite.find nat_cmp q es ≡ None
gap_free a n b q [] above is low high = refl
gap_free a n b q (e ∷ es) above is low high = elim (test_some (leb (a + n) e.0) a b (lowest_gap_from (e.0 + 1) n es) is) [
  | inl h ↦ find_below q (e.0) (e ∷ es) (omega (arith, leb-true (a + n) e.0 h.0, h.1)) (omega arith, above.1)
  | inr h ↦ find_rest q e es (λ same. omega (arith, gap_later (e.0 + 1) n b es above.1 h.1)) ∙ gap_free (e.0 + 1) n b q es above.1 h.1 low high
]

-- the keys are below the end
abbrev pub Below : List (ℕ × Cell) → Type 0
Below [] = Unit {0}
Below (e ∷ es) = (e.0 < end_page) × Below es

-- the gap ends before the end
gap_fits : (a n b : ℕ) (es : List (ℕ × Cell)) → Below es → lowest_gap_from a n es ≡ Some b → b + n ≤ end_page
gap_fits a n b [] below is = elim (test_some (leb (a + n) end_page) a b None is) [ inl h ↦ omega (arith, leb-true (a + n) end_page h.0, h.1) | inr h ↦ absurd (let f = h.1 in cc) ]
gap_fits a n b (e ∷ es) below is = elim (test_some (leb (a + n) e.0) a b (lowest_gap_from (e.0 + 1) n es) is) [
  | inl h ↦ omega (arith, leb-true (a + n) e.0 h.0, h.1, below.0)
  | inr h ↦ gap_fits (e.0 + 1) n b es below.1 h.1
]

-- no lower range of pages from a on is free
gap_least : (a n b c : ℕ) (es : List (ℕ × Cell)) → Above a es → lowest_gap_from a n es ≡ Some b → a ≤ c → c < b → (q : ℕ) × (c ≤ q) × (q < c + n) × (v : Cell) × (finite.find nat_cmp q es ≡ Some v)
gap_least a n b c [] above is low high = elim (test_some (leb (a + n) end_page) a b None is) [ inl h ↦ absurd (omega (arith, h.1)) | inr h ↦ absurd (let f = h.1 in cc) ]
gap_least a n b c (e ∷ es) above is low high = elim (test_some (leb (a + n) e.0) a b (lowest_gap_from (e.0 + 1) n es) is) [
  | inl h ↦ absurd (omega (arith, h.1))
  | inr h ↦ elim (cases_lt e.0 c) [
    | inl past ↦ let r = gap_least (e.0 + 1) n b c es above.1 h.1 (omega arith) high in (r.0, r.1, r.2, r.3, find_rest r.0 e es (λ same. omega (arith, r.1)) ∙ r.4)
    | inr le ↦ (e.0, le, omega (arith, leb-false (a + n) e.0 h.0), e.1, rw (unsigned_tied, eq-eqb e.0 e.0 refl) refl)
  ]
]

-- where there is no gap, no range that ends before the end is free
gap_none : (a n c : ℕ) (es : List (ℕ × Cell)) → Above a es → lowest_gap_from a n es ≡ None → a ≤ c → c + n ≤ end_page → (q : ℕ) × (c ≤ q) × (q < c + n) × (v : Cell) × (finite.find nat_cmp q es ≡ Some v)
gap_none a n c [] above is low fits = let h = test_none (leb (a + n) end_page) a None is in absurd (omega (arith, leb-false (a + n) end_page h.0))
gap_none a n c (e ∷ es) above is low fits =
    let h = test_none (leb (a + n) e.0) a (lowest_gap_from (e.0 + 1) n es) is in
    elim (cases_lt e.0 c) [
      | inl past ↦ let r = gap_none (e.0 + 1) n c es above.1 h.1 (omega arith) fits in (r.0, r.1, r.2, r.3, find_rest r.0 e es (λ same. omega (arith, r.1)) ∙ r.4)
      | inr le ↦ (e.0, le, omega (arith, leb-false (a + n) e.0 h.0), e.1, rw (unsigned_tied, eq-eqb e.0 e.0 refl) refl)
    ]

abbrev Keys : List (ℕ × Cell) → Type 0
Keys es = (q : ℕ) (c : Cell) → finite.find nat_cmp q es ≡ Some c → (1 ≤ q) × (q < end_page)

keys_rest : (e : ℕ × Cell) (es : List (ℕ × Cell)) → Keys (e ∷ es) → Keys es
keys_rest e es keys q c found = elim (cases_eq q e.0) [
  | inl is ↦ rw is (keys e.0 e.1 (first_found e es))
  | inr apart ↦ keys q c (find_rest q e es apart ∙ found)
]

start_of : (es : List (ℕ × Cell)) → Keys es → StartsAt 1 es
start_of [] keys = tt
start_of (e ∷ es) keys = (keys e.0 e.1 (first_found e es)).0

below_of : (es : List (ℕ × Cell)) → Keys es → Below es
below_of [] keys = tt
below_of (e ∷ es) keys = ((keys e.0 e.1 (first_found e es)).1, below_of es (keys_rest e es keys))

keys_of : (s : Space) → IsUser s → Keys (finite.entries s)
keys_of s user q c found = let at = user q c (finite.get-entries s q ∙ found) in (at.0, omega (arith, at.1))

above_of : (s : Space) → IsUser s → Above 1 (finite.entries s)
above_of s user = rising 1 (finite.entries s) (finite.entries_sorted s) (start_of (finite.entries s) (keys_of s user))

pub lowest_gap-fits : (s : Space) (n b : ℕ) → IsUser s → lowest_gap s n ≡ Some b → (1 ≤ b) × (b + n ≤ end_page)
lowest_gap-fits s n b user is = (gap_later 1 n b (finite.entries s) (above_of s user) is, gap_fits 1 n b (finite.entries s) (below_of (finite.entries s) (keys_of s user)) is)

pub lowest_gap-free : (s : Space) (n b : ℕ) → IsUser s → lowest_gap s n ≡ Some b → IsFree s b n
lowest_gap-free s n b user is q low high = finite.get-entries s q ∙ gap_free 1 n b q (finite.entries s) (above_of s user) is low high

free_from_0 : (n b q : ℕ) (es : List (ℕ × Cell)) → Above 0 es → lowest_gap_from 1 n es ≡ Some b → b ≤ q → q < b + n → finite.find nat_cmp q es ≡ None
free_from_0 n b q [] above is low high = refl
free_from_0 n b q (e ∷ es) above is low high = elim (cases_eq e.0 0) [
  | inl none ↦ elim (test_some (leb (1 + n) e.0) 1 b (lowest_gap_from (e.0 + 1) n es) is) [
    | inl h ↦ absurd (omega (arith, leb-true (1 + n) e.0 h.0))
    | inr h ↦ find_rest q e es (λ same. omega (arith, gap_later (e.0 + 1) n b es above.1 h.1)) ∙ gap_free (e.0 + 1) n b q es above.1 h.1 low high
  ]
  | inr some ↦ gap_free 1 n b q (e ∷ es) (omega (arith, some), above.1) is low high
]

-- the lowest gap is free in every space, also in one with a cell at page 0
pub gap-free : (s : Space) (n b : ℕ) → lowest_gap s n ≡ Some b → IsFree s b n
gap-free s n b is q low high = finite.get-entries s q ∙ free_from_0 n b q (finite.entries s) (Above-entries s) is low high

not_free : (s : Space) (c n : ℕ) → (q : ℕ) × (c ≤ q) × (q < c + n) × (v : Cell) × (finite.find nat_cmp q (finite.entries s) ≡ Some v) → IsFree s c n → ⊥
not_free s c n r free = let none = free r.0 r.1 r.2 in let found : finite.get s r.0 ≡ Some r.3 = finite.get-entries s r.0 ∙ r.4 in absurd cc

pub lowest_gap-least : (s : Space) (n b c : ℕ) → IsUser s → lowest_gap s n ≡ Some b → 1 ≤ c → c < b → IsFree s c n → ⊥
lowest_gap-least s n b c user is low high = not_free s c n (gap_least 1 n b c (finite.entries s) (above_of s user) is low high)

pub lowest_gap-none : (s : Space) (n c : ℕ) → IsUser s → lowest_gap s n ≡ None → 1 ≤ c → c + n ≤ end_page → IsFree s c n → ⊥
lowest_gap-none s n c user is low fits = not_free s c n (gap_none 1 n c (finite.entries s) (above_of s user) is low fits)

pub lowest_gap_law : LowestGap
lowest_gap_law = record { fits = lowest_gap-fits; free = lowest_gap-free; least = lowest_gap-least; none = lowest_gap-none }
