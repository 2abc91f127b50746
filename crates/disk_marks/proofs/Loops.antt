-- Pushes that change one after another.
use Rattle.std.proofs.Common.{◌≡◌, ℕ, zero, suc, ◌+◌, ◌<◌, List, [], ◌∷◌, ◌++◌, length, map, take, drop, refl, ap, arith}
use Rattle.std.specs.Prelude.{slice_set, slice_index_or}
use Rattle.std.proofs.lemmas.List.Edits.{map_over_more}

-- an element that is there, whatever stands for one that isn't
any_default : {A : Type 0} (xs : List A) (i : ℕ) (d e : A) → i < length xs → slice_index_or xs i d ≡ slice_index_or xs i e
any_default [] i d e lt = absurd (omega (arith, lt))
any_default (x ∷ xs) zero d e lt = refl
any_default (x ∷ xs) (suc i) d e lt = any_default xs i d e (omega (arith, lt))

pub same_length : {A : Type 0} (f : A → A) (xs : List A) (i : ℕ) → length (map f (take i xs) ++ drop i xs) ≡ length xs
same_length f xs zero = refl
same_length f [] (suc i) = refl
same_length f (x ∷ xs) (suc i) = ap suc (same_length f xs i)

-- one element more is changed
pub one_more : {A : Type 0} (f : A → A) (xs ys : List A) (i : ℕ) (d : A) → i < length ys → ys ≡ map f (take i xs) ++ drop i xs → slice_set ys i (f (slice_index_or ys i d)) ≡ map f (take (i + 1) xs) ++ drop (i + 1) xs
one_more f xs ys i d below is =
    let inside : i < length xs = omega (arith, below, ap length is, same_length f xs i) in
    map_over_more f xs ys i (slice_index_or ys i d) inside is (any_default ys i d (slice_index_or ys i d) below)
