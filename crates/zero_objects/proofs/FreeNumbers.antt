-- The least number at which a list has none.
use Rattle.std.proofs.Common.{◌≡◌, ℕ, zero, suc, ◌<◌, List, [], ◌∷◌, ◌++◌, length, Option, Some, None, refl, sym, ap, ◌∙◌, arith}
use Rattle.std.specs.Prelude.{option_map, IsSome, slice_index_or, slice_set}
use Rattle.zero_objects.specs.ZeroNumbers.{free_number}

-- one more than a number that there is
after-some : (o : Option ℕ) (n : ℕ) → option_map (λ (k : ℕ). suc k) o ≡ Some n → (k : ℕ) × (o ≡ Some k) × (suc k ≡ n)
after-some None n is = absurd (let e : None ≡ Some n = is in cc)
after-some (Some k) n is = (k, refl, (let e : Some (suc k) ≡ Some n = is in cc))

-- it lies within the list
pub free-within : (xs : List (Option ℕ)) (n : ℕ) → free_number xs ≡ Some n → n < length xs
free-within [] n is = absurd (let e : None ≡ Some n = is in cc)
free-within (None ∷ xs) n is = let e : 0 ≡ n = (let d : Some 0 ≡ Some n = is in cc) in omega arith
free-within (Some m ∷ xs) n is = let r = after-some (free_number xs) n is in let lt = free-within xs r.0 r.1 in let e = r.2 in omega arith

-- nothing is there
free-none : (xs : List (Option ℕ)) (n : ℕ) → free_number xs ≡ Some n → slice_index_or xs n None ≡ None
free-none [] n is = absurd (let e : None ≡ Some n = is in cc)
free-none (None ∷ xs) n is = let e : 0 ≡ n = (let d : Some 0 ≡ Some n = is in cc) in ap (λ (k : ℕ). slice_index_or (None ∷ xs) k None) (sym e)
free-none (Some m ∷ xs) n is = let r = after-some (free_number xs) n is in ap (λ (k : ℕ). slice_index_or (Some m ∷ xs) k None) (sym r.2) ∙ free-none xs r.0 r.1

-- and something below
free-below : (xs : List (Option ℕ)) (n : ℕ) → free_number xs ≡ Some n → (k : ℕ) → k < n → IsSome (slice_index_or xs k None)
free-below [] n is k lt = absurd (let e : None ≡ Some n = is in cc)
free-below (None ∷ xs) n is k lt = absurd (let e : 0 ≡ n = (let d : Some 0 ≡ Some n = is in cc) in omega arith)
free-below (Some m ∷ xs) n is zero lt = refl
free-below (Some m ∷ xs) n is (suc k) lt = let r = after-some (free_number xs) n is in let e = r.2 in free-below xs r.0 r.1 k (omega arith)

pub free-least : (xs : List (Option ℕ)) (z : ℕ) → free_number xs ≡ Some z → (slice_index_or xs z None ≡ None) × ((y : ℕ) → y < z → IsSome (slice_index_or xs y None))
free-least xs z is = (free-none xs z is, free-below xs z is)

some-after : (o : Option ℕ) → IsSome o → IsSome (option_map (λ (k : ℕ). suc k) o)
some-after None some = some
some-after (Some n) some = refl

-- a list with none at its end has one
pub free-pushed : (xs : List (Option ℕ)) → IsSome (free_number (xs ++ (None ∷ [])))
free-pushed [] = refl
free-pushed (None ∷ xs) = refl
free-pushed (Some m ∷ xs) = some-after (free_number (xs ++ (None ∷ []))) (free-pushed xs)

-- and where one goes, it has one still
pub free-cleared : (xs : List (Option ℕ)) (z : ℕ) → IsSome (free_number xs) → IsSome (free_number (slice_set xs z None))
free-cleared [] z some = some
free-cleared (None ∷ xs) zero some = refl
free-cleared (None ∷ xs) (suc z) some = refl
free-cleared (Some m ∷ xs) zero some = refl
free-cleared (Some m ∷ xs) (suc z) some = some-after (free_number (slice_set xs z None)) (free-cleared xs z (before (free_number xs) some))
  where
    before : (o : Option ℕ) → IsSome (option_map (λ (k : ℕ). suc k) o) → IsSome o
    before None some = some
    before (Some n) some = refl
