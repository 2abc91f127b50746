-- Numbers in a row, their front and their rest.
use Rattle.std.proofs.Common.{ℕ, zero, suc, ◌≡◌, ◌<◌, ◌≤◌, ◌+◌, ◌-◌, List, [], ◌∷◌, ◌++◌, ap, sym, ◌∙◌, arith, Bool, true, false, ◌||◌}
use Rattle.std.proofs.lemmas.List.{map-id}
use Rattle.std.proofs.lemmas.List.FromFn.{map-range_with_len_more}
use Rattle.std.specs.List.{list_any, range_with_len}

-- The rest of a row of numbers is its next number and the rest after that.
pub range-rest : (i n : ℕ) → i < n → range_with_len i (n - i) ≡ i ∷ range_with_len (i + 1) (n - (i + 1))
range-rest i n h =
    let e : n - i ≡ suc (n - (i + 1)) = omega arith in
    ap (range_with_len i) e

-- The same of a row that ends at a number.
pub range-rest-end : (i n : ℕ) → n ≤ i → range_with_len i (n - i) ≡ []
range-rest-end i n h =
    let e : n - i ≡ 0 = omega arith in
    ap (range_with_len i) e

-- Whether one of a row of numbers passes: the next one, or one of the rest.
pub any-rest : (p : ℕ → Bool) (i n : ℕ) → i < n → list_any p (range_with_len i (n - i)) ≡ (p i || list_any p (range_with_len (i + 1) (n - (i + 1))))
any-rest p i n h = ap (list_any p) (range-rest i n h)

pub any-rest-yes : (p : ℕ → Bool) (i n : ℕ) → i < n → p i ≡ true → list_any p (range_with_len i (n - i)) ≡ true
any-rest-yes p i n h e = any-rest p i n h ∙ ap (λ (b : Bool). b || list_any p (range_with_len (i + 1) (n - (i + 1)))) e

pub any-rest-no : (p : ℕ → Bool) (i n : ℕ) → i < n → p i ≡ false → list_any p (range_with_len i (n - i)) ≡ list_any p (range_with_len (i + 1) (n - (i + 1)))
any-rest-no p i n h e = any-rest p i n h ∙ ap (λ (b : Bool). b || list_any p (range_with_len (i + 1) (n - (i + 1)))) e

pub any-rest-end : (p : ℕ → Bool) (i n : ℕ) → n ≤ i → list_any p (range_with_len i (n - i)) ≡ false
any-rest-end p i n h = ap (list_any p) (range-rest-end i n h)

-- A row of numbers with one more at its end.
pub range-more : (a n j : ℕ) → a + n ≡ j → range_with_len a (n + 1) ≡ range_with_len a n ++ j ∷ []
range-more a n j e =
    sym (map-id (range_with_len a (n + 1)))
    ∙ map-range_with_len_more (λ (k : ℕ). k) a n j e
    ∙ ap (λ (xs : List ℕ). xs ++ j ∷ []) (map-id (range_with_len a n))

-- Two rows of numbers, one behind the other.
pub range-join : (a p q : ℕ) → range_with_len a p ++ range_with_len (a + p) q ≡ range_with_len a (p + q)
range-join a zero q = let start : a + 0 ≡ a = omega arith in let size : q ≡ 0 + q = omega arith in ap (λ (k : ℕ). range_with_len k q) start ∙ ap (range_with_len a) size
range-join a (suc p) q =
    let start : a + suc p ≡ a + 1 + p = omega arith in
    let size : suc (p + q) ≡ suc p + q = omega arith in
    ap (λ (k : ℕ). a ∷ (range_with_len (a + 1) p ++ range_with_len k q)) start
    ∙ ap (λ (xs : List ℕ). a ∷ xs) (range-join (a + 1) p q)
    ∙ ap (range_with_len a) size
