-- Zero objects by number. Public clauses cite this.
use Rattle.std.specs.Prelude.{◌≡◌, ℕ, suc, List, [], ◌∷◌, Option, Some, None, slice_index_or, option_map}

-- The least number at which there is none.
abbrev pub free_number : List (Option ℕ) → Option ℕ
free_number [] = None
free_number (None ∷ rest) = Some 0
free_number (Some map ∷ rest) = option_map (λ (n : ℕ). suc n) (free_number rest)

-- Two lists have the same objects.
abbrev pub AreSameZeros : List (Option ℕ) → List (Option ℕ) → Type 0
AreSameZeros zeros same = (z : ℕ) → slice_index_or same z None ≡ slice_index_or zeros z None
