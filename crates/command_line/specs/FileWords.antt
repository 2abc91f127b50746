-- Which of the words is a file. The program's own code cites this, and no clause of `run`.
use Rattle.std.specs.Prelude.{ℕ, ◌+◌, ◌==◌, ◌||◌, Bool, true, false, List, [], ◌∷◌, codes, Option, Some, None, if◌then◌else◌}
use Rattle.std.specs.Str.{bytes_eq}

-- The word is an option that has the next word as its value.
abbrev pub takes_a_value : List ℕ → Bool
takes_a_value word = bytes_eq word (codes "--pageout") || bytes_eq word (codes "--make")

-- The word begins with a minus sign, as an option does.
abbrev pub begins_with_minus : List ℕ → Bool
begins_with_minus [] = false
begins_with_minus (b ∷ bytes) = b == 45

-- From place k on, where the first word is the value of an option or not.
abbrev pub file_word_place_from : ℕ → Bool → List (List ℕ) → Option ℕ
file_word_place_from k is_value [] = None
file_word_place_from k true (word ∷ words) = file_word_place_from (k + 1) false words
file_word_place_from k false (word ∷ words) = if begins_with_minus word then file_word_place_from (k + 1) (takes_a_value word) words else Some k

-- The place of the first word that is neither an option nor the value of one.
abbrev pub file_word_place : List (List ℕ) → Option ℕ
file_word_place words = file_word_place_from 0 false words
