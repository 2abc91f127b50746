-- The places of the blocks of a disk that begins blank. Inside: no clause of `run` cites this.
use Rattle.std.specs.Prelude.{ℕ, ◌+◌, ◌≡◌, ◌<◌, List, [], ◌∷◌, slice_index_or, Option, Some, None}

-- How many blocks were written, of those that have a place here.
abbrev pub written_of : List (Option ℕ) → ℕ
written_of [] = 0
written_of (None ∷ places) = written_of places
written_of (Some place ∷ places) = written_of places + 1

-- Each block that was written has a place of its own among them, and each place has its block.
pub record AreBlockPlaces (places : List (Option ℕ)) (count : ℕ) : Type 0 where
  pub within : (i place : ℕ) → slice_index_or places i None ≡ Some place → place < count
  pub apart : (i j place : ℕ) → slice_index_or places i None ≡ Some place → slice_index_or places j None ≡ Some place → i ≡ j
  pub counted : written_of places ≡ count
