-- Tests one after another, and the first that fails.
use Rattle.std.proofs.Common.{ℕ, zero, suc, ◌≡◌, ◌<◌, ◌≤◌, ◌+◌, ◌-◌, Bool, true, false, List, [], ◌∷◌, ◌++◌, Some, None, refl, ap, ◌∙◌, arith, append_assoc, subst, inl, inr}
use Rattle.std.proofs.lemmas.Bool.{cases_eq}
use Rattle.std.specs.List.{flat_map, range_with_len}
use Rattle.volume_format.specs.Rules.{Test, test, first_failed}
use Rattle.volume_format.proofs.RangeLemmas.{range-rest, range-rest-end}

-- Where the first tests hold the rest decides, and where one of them fails it is told.
none-cons : (rule : ℕ) (holds : Bool) (xs ys : List Test) → first_failed (record { rule = rule; holds = holds } ∷ xs) ≡ None
    → (first_failed xs ≡ None → first_failed (xs ++ ys) ≡ first_failed ys)
    → first_failed (record { rule = rule; holds = holds } ∷ (xs ++ ys)) ≡ first_failed ys
none-cons rule true xs ys h rest = rest h
none-cons rule false xs ys h rest = absurd cc

pub failed-append-none : (xs ys : List Test) → first_failed xs ≡ None → first_failed (xs ++ ys) ≡ first_failed ys
failed-append-none [] ys h = refl
failed-append-none (x ∷ xs) ys h = none-cons x.rule x.holds xs ys h (λ later. failed-append-none xs ys later)

some-cons : (n : ℕ) (holds : Bool) (xs ys : List Test) (rule : ℕ) → first_failed (record { rule = n; holds = holds } ∷ xs) ≡ Some rule
    → (first_failed xs ≡ Some rule → first_failed (xs ++ ys) ≡ Some rule)
    → first_failed (record { rule = n; holds = holds } ∷ (xs ++ ys)) ≡ Some rule
some-cons n true xs ys rule h rest = rest h
some-cons n false xs ys rule h rest = h

pub failed-append-some : (xs ys : List Test) (rule : ℕ) → first_failed xs ≡ Some rule → first_failed (xs ++ ys) ≡ Some rule
failed-append-some [] ys rule h = absurd cc
failed-append-some (x ∷ xs) ys rule h = some-cons x.rule x.holds xs ys rule h (λ later. failed-append-some xs ys rule later)

-- A test before others: it fails and is told, or the others decide.
pub failed-test-no : (rule : ℕ) (holds : Bool) (ts : List Test) → holds ≡ false → first_failed (record { rule = rule; holds = holds } ∷ ts) ≡ Some rule
failed-test-no rule true ts h = absurd cc
failed-test-no rule false ts h = refl

pub failed-test-yes : (rule : ℕ) (holds : Bool) (ts : List Test) → holds ≡ true → first_failed (record { rule = rule; holds = holds } ∷ ts) ≡ first_failed ts
failed-test-yes rule true ts h = refl
failed-test-yes rule false ts h = absurd cc

-- Tests of one number after another: the next number's come first.
pub failed-rest : (f : ℕ → List Test) (i n : ℕ) → i < n
    → first_failed (flat_map f (range_with_len i (n - i))) ≡ first_failed (f i ++ flat_map f (range_with_len (i + 1) (n - (i + 1))))
failed-rest f i n h = ap (λ (r : List ℕ). first_failed (flat_map f r)) (range-rest i n h)

-- The same, before other tests.
pub failed-rest-then : (f : ℕ → List Test) (i n : ℕ) (after : List Test) → i < n
    → first_failed (flat_map f (range_with_len i (n - i)) ++ after) ≡ first_failed (f i ++ (flat_map f (range_with_len (i + 1) (n - (i + 1))) ++ after))
failed-rest-then f i n after h =
    ap (λ (r : List ℕ). first_failed (flat_map f r ++ after)) (range-rest i n h)
    ∙ ap first_failed (append_assoc (f i) (flat_map f (range_with_len (i + 1) (n - (i + 1)))) after)

pub failed-rest-end-then : (f : ℕ → List Test) (i n : ℕ) (after : List Test) → n ≤ i
    → first_failed (flat_map f (range_with_len i (n - i)) ++ after) ≡ first_failed after
failed-rest-end-then f i n after h = ap (λ (r : List ℕ). first_failed (flat_map f r ++ after)) (range-rest-end i n h)

-- A step of going through the numbers: one of this number's tests fails, or the rest decides.
pub rest-some : (f : ℕ → List Test) (i n rule : ℕ) → i < n → first_failed (f i) ≡ Some rule → first_failed (flat_map f (range_with_len i (n - i))) ≡ Some rule
rest-some f i n rule h e = failed-rest f i n h ∙ failed-append-some (f i) (flat_map f (range_with_len (i + 1) (n - (i + 1)))) rule e

pub rest-none : (f : ℕ → List Test) (i n : ℕ) → i < n → first_failed (f i) ≡ None
    → first_failed (flat_map f (range_with_len i (n - i))) ≡ first_failed (flat_map f (range_with_len (i + 1) (n - (i + 1))))
rest-none f i n h e = failed-rest f i n h ∙ failed-append-none (f i) (flat_map f (range_with_len (i + 1) (n - (i + 1)))) e

pub rest-some-then : (f : ℕ → List Test) (i n rule : ℕ) (after : List Test) → i < n → first_failed (f i) ≡ Some rule
    → first_failed (flat_map f (range_with_len i (n - i)) ++ after) ≡ Some rule
rest-some-then f i n rule after h e =
    failed-rest-then f i n after h ∙ failed-append-some (f i) (flat_map f (range_with_len (i + 1) (n - (i + 1))) ++ after) rule e

pub rest-none-then : (f : ℕ → List Test) (i n : ℕ) (after : List Test) → i < n → first_failed (f i) ≡ None
    → first_failed (flat_map f (range_with_len i (n - i)) ++ after) ≡ first_failed (flat_map f (range_with_len (i + 1) (n - (i + 1))) ++ after)
rest-none-then f i n after h e =
    failed-rest-then f i n after h ∙ failed-append-none (f i) (flat_map f (range_with_len (i + 1) (n - (i + 1))) ++ after) e

-- Where no test fails, none of a part fails, and each holds.
pub passed-test : (rule : ℕ) (holds : Bool) (ts : List Test) → first_failed (record { rule = rule; holds = holds } ∷ ts) ≡ None → (holds ≡ true) × (first_failed ts ≡ None)
passed-test rule true ts h = (refl, h)
passed-test rule false ts h = absurd cc

pub passed-two : (m n : ℕ) (a b : Bool) → first_failed (test m a ∷ test n b ∷ []) ≡ None → (a ≡ true) × (b ≡ true)
passed-two m n a b h = let t = passed-test m a (test n b ∷ []) h in (t.0, (passed-test n b [] t.1).0)

pub passed-three : (l m n : ℕ) (a b d : Bool) → first_failed (test l a ∷ test m b ∷ test n d ∷ []) ≡ None → (a ≡ true) × (b ≡ true) × (d ≡ true)
passed-three l m n a b d h = let t = passed-test l a (test m b ∷ test n d ∷ []) h in
    let r = passed-two m n b d t.1 in
    (t.0, r.0, r.1)

passed-cons : (rule : ℕ) (holds : Bool) (xs ys : List Test) → first_failed (record { rule = rule; holds = holds } ∷ (xs ++ ys)) ≡ None
    → (first_failed (xs ++ ys) ≡ None → (first_failed xs ≡ None) × (first_failed ys ≡ None))
    → (first_failed (record { rule = rule; holds = holds } ∷ xs) ≡ None) × (first_failed ys ≡ None)
passed-cons rule true xs ys h rest = rest h
passed-cons rule false xs ys h rest = absurd cc

pub passed-append : (xs ys : List Test) → first_failed (xs ++ ys) ≡ None → (first_failed xs ≡ None) × (first_failed ys ≡ None)
passed-append [] ys h = (refl, h)
passed-append (x ∷ xs) ys h = passed-cons x.rule x.holds xs ys h (λ later. passed-append xs ys later)

pub passed-each : (f : ℕ → List Test) (a n k : ℕ) → first_failed (flat_map f (range_with_len a n)) ≡ None → a ≤ k → k < a + n → first_failed (f k) ≡ None
passed-each f a zero k h low high = absurd (omega arith)
passed-each f a (suc n) k h low high =
    let parts : (first_failed (f a) ≡ None) × (first_failed (flat_map f (range_with_len (a + 1) n)) ≡ None) = passed-append (f a) (flat_map f (range_with_len (a + 1) n)) h in
    elim (cases_eq a k) [
      | inl e ↦ subst (λ (j : ℕ). first_failed (f j) ≡ None) e parts.0
      | inr ne ↦ passed-each f (a + 1) n k parts.1 (omega arith) (omega arith)
    ]

-- Tests that hold, put together.
pub passes-test : (rule : ℕ) (holds : Bool) (ts : List Test) → holds ≡ true → first_failed ts ≡ None → first_failed (record { rule = rule; holds = holds } ∷ ts) ≡ None
passes-test rule true ts e h = h
passes-test rule false ts e h = absurd cc

pub passes-append : (xs ys : List Test) → first_failed xs ≡ None → first_failed ys ≡ None → first_failed (xs ++ ys) ≡ None
passes-append xs ys h k = failed-append-none xs ys h ∙ k

pub passes-each : (f : ℕ → List Test) (a n : ℕ) → ((k : ℕ) → a ≤ k → k < a + n → first_failed (f k) ≡ None) → first_failed (flat_map f (range_with_len a n)) ≡ None
passes-each f a zero h = refl
passes-each f a (suc n) h =
    passes-append (f a) (flat_map f (range_with_len (a + 1) n)) (h a (omega arith) (omega arith))
    (passes-each f (a + 1) n (λ k low high. h k (omega arith) (omega arith)))
