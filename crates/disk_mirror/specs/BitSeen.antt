-- What a map of bits is, inside the crate.
use Rattle.std.specs.Prelude.{ℕ, ◌/◌, ◌%◌, nat_eq, Bool, List, map, slice_index}
use Rattle.std.specs.Int.{bit_at}
use Rattle.std.specs.List.{range_with_len}

-- the bit at a place, of words of 64 bits
abbrev pub word_bit : List ℕ → ℕ → Bool
word_bit words place = nat_eq (bit_at (slice_index words (place / 64)) (place % 64)) 1

-- the first bits of words
abbrev pub word_bits : List ℕ → ℕ → List Bool
word_bits words count = map (word_bit words) (range_with_len 0 count)
