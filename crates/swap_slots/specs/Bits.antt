-- Bits in words of 64. Inside: no public clause cites this.
use Rattle.std.specs.Prelude.{◌≡◌, ◌≢◌, ℕ, ◌*◌, ◌/◌, ◌%◌, ◌-◌, ◌^◌, ◌<◌, ◌≤◌, ◌==◌, Bool, List, length, map, slice_index, if◌then◌else◌}
use Rattle.std.specs.Int.{bit_at}
use Rattle.std.specs.List.{range_with_len}

-- whether the bit at a place is set, in the words one after another, the lowest bit of each first
abbrev pub is_set : List ℕ → ℕ → Bool
is_set words place = bit_at (slice_index words (place / 64)) (place % 64) == 1

-- the first so many of these
abbrev pub flags : List ℕ → ℕ → List Bool
flags words count = map (is_set words) (range_with_len 0 count)

-- the new words have this at the place, and every other bit as it was
pub record Marks (old new : List ℕ) (place : ℕ) (set : Bool) : Type 0 where
  pub lengths : length new ≡ length old
  pub words : (word : ℕ) → word ≢ place / 64 → slice_index new word ≡ slice_index old word
  pub bits : (k : ℕ) → is_set new k ≡ (if k == place then set else is_set old k)

-- the bit of each word in the index is set where the word has all its bits set
pub record IsSummary (words full : List ℕ) : Type 0 where
  pub covered : length words ≤ 64 * length full
  pub marks : (word : ℕ) → word < length words → is_set full word ≡ (slice_index words word == 2 ^ 64 - 1)

-- the words have a bit for each slot
pub record IsSoundSwapSlots (slots : ℕ) (words full : List ℕ) : Type 0 where
  pub enough : slots ≤ 64 * length words
  pub few : length words ≤ 2 ^ 32
  pub few_full : length full ≤ 2 ^ 32
  pub summary : IsSummary words full
