-- Words and pages of bytes.
use Rattle.std.proofs.Common.{◌≡◌, ℕ, zero, suc, ◌+◌, ◌*◌, ◌%◌, ◌^◌, ◌<◌, ◌≤◌, List, [], ◌∷◌, ◌++◌, length, take, drop, Some, refl, sym, ap, subst, ◌∙◌, inl, inr, append_assoc, arith}
use Rattle.std.specs.Prelude.{slice_get, slice_set, option_map, All}
use Rattle.std.proofs.lemmas.Option.{slice_get_within, get_or_from_slice_get}
use Rattle.std.proofs.lemmas.List.{length-take, drop_at}
use Rattle.flat_model.specs.Words.{Page, word_value, word_bytes, with_bytes, word_at, IsWordSize}
use Rattle.flat_model.specs.Access.{with_change_at}

-- what holds of all holds of the one at a place
pub All-slice_get : {X : Type 0} (P : X → Type 0) (xs : List X) (i : ℕ) (x : X) → All P xs → slice_get xs i ≡ Some x → P x
All-slice_get P xs i x all is = subst P (get_or_from_slice_get xs i x x is) (all i x (slice_get_within xs i x is))

word_value-1 : (v : ℕ) → v < 2 ^ (8 * 1) → word_value (word_bytes 1 v) ≡ v
word_value-1 v lt = omega arith

word_value-2 : (v : ℕ) → v < 2 ^ (8 * 2) → word_value (word_bytes 2 v) ≡ v
word_value-2 v lt = omega arith

word_value-4 : (v : ℕ) → v < 2 ^ (8 * 4) → word_value (word_bytes 4 v) ≡ v
word_value-4 v lt = omega arith

-- bytes that were put at a place are there
pub drop-with_bytes : (old new : List ℕ) (k : ℕ) → k ≤ length old → drop k (with_bytes old k new) ≡ new ++ drop (k + length new) old
drop-with_bytes old new k fits =
    let front : length (take k old) ≡ k = omega (arith, length-take k old) in
    ap (drop k) (append_assoc (take k old) new (drop (k + length new) old)) ∙ drop_at (take k old) (new ++ drop (k + length new) old) k front

word_with : (bytes : Page) (a b n v : ℕ) → a % 4096 ≤ length bytes → b % 4096 ≡ a % 4096 → ((rest : List ℕ) → word_value (take n (word_bytes n v ++ rest)) ≡ v) → word_at (with_bytes bytes (a % 4096) (word_bytes n v)) b n ≡ v
word_with bytes a b n v fits same again =
    ap (λ j. word_value (take n (drop j (with_bytes bytes (a % 4096) (word_bytes n v))))) same
    ∙ ap (λ (xs : List ℕ). word_value (take n xs)) (drop-with_bytes bytes (word_bytes n v) (a % 4096) fits)
    ∙ again (drop (a % 4096 + length (word_bytes n v)) bytes)

-- a word that was stored is the word that is there
pub word_again : (bytes : Page) (a b n v : ℕ) → IsWordSize n → length bytes ≡ 4096 → b % 4096 ≡ a % 4096 → v < 2 ^ (8 * n) → word_at (with_bytes bytes (a % 4096) (word_bytes n v)) b n ≡ v
word_again bytes a b n v (inl one) whole same lt = subst (λ (k : ℕ). v < 2 ^ (8 * k) → word_at (with_bytes bytes (a % 4096) (word_bytes k v)) b k ≡ v) (sym one) (λ less. word_with bytes a b 1 v (omega arith) same (λ rest. word_value-1 v less)) lt
word_again bytes a b n v (inr (inl two)) whole same lt = subst (λ (k : ℕ). v < 2 ^ (8 * k) → word_at (with_bytes bytes (a % 4096) (word_bytes k v)) b k ≡ v) (sym two) (λ less. word_with bytes a b 2 v (omega arith) same (λ rest. word_value-2 v less)) lt
word_again bytes a b n v (inr (inr four)) whole same lt = subst (λ (k : ℕ). v < 2 ^ (8 * k) → word_at (with_bytes bytes (a % 4096) (word_bytes k v)) b k ≡ v) (sym four) (λ less. word_with bytes a b 4 v (omega arith) same (λ rest. word_value-4 v less)) lt

-- addresses at the same place of their pages are aligned alike
pub aligned_alike : (a b n : ℕ) → IsWordSize n → a % n ≡ 0 → b % 4096 ≡ a % 4096 → b % n ≡ 0
aligned_alike a b n (inl one) is same = subst (λ (k : ℕ). b % k ≡ 0) (sym one) (omega arith)
aligned_alike a b n (inr (inl two)) is same = subst (λ (k : ℕ). a % k ≡ 0 → b % k ≡ 0) (sym two) (λ e. omega arith) is
aligned_alike a b n (inr (inr four)) is same = subst (λ (k : ℕ). a % k ≡ 0 → b % k ≡ 0) (sym four) (λ e. omega arith) is

pub slice_get-with_change_at : {A : Type 0} (f : A → A) (xs : List A) (i : ℕ) → slice_get (with_change_at f xs i) i ≡ option_map f (slice_get xs i)
slice_get-with_change_at f [] zero = refl
slice_get-with_change_at f [] (suc i) = refl
slice_get-with_change_at f (x ∷ xs) zero = refl
slice_get-with_change_at f (x ∷ xs) (suc i) = slice_get-with_change_at f xs i

pub slice_get-changed_apart : {A : Type 0} (f : A → A) (xs : List A) (i j : ℕ) → (j ≡ i → ⊥) → slice_get (with_change_at f xs i) j ≡ slice_get xs j
slice_get-changed_apart f [] i j apart = refl
slice_get-changed_apart f (x ∷ xs) zero zero apart = absurd (apart refl)
slice_get-changed_apart f (x ∷ xs) zero (suc j) apart = refl
slice_get-changed_apart f (x ∷ xs) (suc i) zero apart = refl
slice_get-changed_apart f (x ∷ xs) (suc i) (suc j) apart = slice_get-changed_apart f xs i j (λ is. apart (ap (λ k. suc k) is))

-- what was written over an element is there
pub slice_get-slice_set : {A : Type 0} (xs : List A) (i : ℕ) (x y : A) → slice_get xs i ≡ Some x → slice_get (slice_set xs i y) i ≡ Some y
slice_get-slice_set [] zero x y is = absurd cc
slice_get-slice_set [] (suc i) x y is = absurd cc
slice_get-slice_set (z ∷ xs) zero x y is = refl
slice_get-slice_set (z ∷ xs) (suc i) x y is = slice_get-slice_set xs i x y is
