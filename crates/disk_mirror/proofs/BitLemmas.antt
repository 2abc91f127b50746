-- Maps of bits over words of 64 bits.
use Rattle.std.proofs.Common.{ℕ, ◌≡◌, ◌≢◌, ◌*◌, ◌<◌, ◌≤◌, ◌/◌, ◌%◌, ◌^◌, ◌∙◌, ap, sym, inl, inr, arith, Bool, false, nat_eq, List, length, get_or, set, replicate, bit_and}
use Rattle.std.specs.Int.{bit_at}
use Rattle.std.proofs.lemmas.Bool.{cases_eq}
use Rattle.std.proofs.lemmas.List.{ext_get_or, length-set, length-replicate, get_or-replicate, get_or-set_same, get_or-set_other}
use Rattle.std.proofs.lemmas.List.FromFn.{get_or-map-range_with_len, length-map-range_with_len}
use Rattle.std.proofs.lemmas.Nat.Bits.{shr_and_one}
use Rattle.disk_mirror.specs.BitSeen.{word_bit, word_bits}

pub length-word_bits : (words : List ℕ) (count : ℕ) → length (word_bits words count) ≡ count
length-word_bits words count = length-map-range_with_len (word_bit words) 0 count

pub get_or-word_bits : (words : List ℕ) (count place : ℕ) → place < count → get_or (word_bits words count) place false ≡ word_bit words place
get_or-word_bits words count place inside = get_or-map-range_with_len (word_bit words) 0 count place place false inside (omega arith)

-- the test of a bit of a word
pub test_bit : (words : List ℕ) (count place word : ℕ) → place < count → word ≡ get_or words (place / 64) 0 → nat_eq (bit_and (word / 2 ^ (place % 64)) 1) 1 ≡ get_or (word_bits words count) place false
test_bit words count place word inside is =
    ap (λ bit. nat_eq bit 1) (shr_and_one word (place % 64) ∙ ap (λ w. bit_at w (place % 64)) is) ∙ sym (get_or-word_bits words count place inside)

-- words that are all the same, each of 64 bits that are all the same
pub word_bits-same : (words : List ℕ) (many count word : ℕ) (bit : Bool) → words ≡ replicate many word → count ≤ 64 * many → ((i : ℕ) → i < 64 → nat_eq (bit_at word i) 1 ≡ bit) → word_bits words count ≡ replicate count bit
word_bits-same words many count word bit are enough each =
    ext_get_or false (word_bits words count) (replicate count bit) (length-word_bits words count ∙ sym (length-replicate count bit))
    (λ i within.
    let inside : i < count = omega (arith, within, length-word_bits words count) in
    let there : i / 64 < many = omega (arith, inside, enough) in
    let low : i % 64 < 64 = omega arith in
    let is : get_or words (i / 64) 0 ≡ word = ap (λ (ws : List ℕ). get_or ws (i / 64) 0) are ∙ get_or-replicate many (i / 64) word 0 there in
    get_or-word_bits words count i inside ∙ ap (λ w. nat_eq (bit_at w (i % 64)) 1) is ∙ each (i % 64) low ∙ sym (get_or-replicate count i bit false inside))

module _ (words : List ℕ) (count place word : ℕ) (bit : Bool) (inside : place < count) (enough : count ≤ 64 * length words) (has : nat_eq (bit_at word (place % 64)) 1 ≡ bit) (keeps : (i : ℕ) → i < 64 → i ≢ place % 64 → bit_at word i ≡ bit_at (get_or words (place / 64) 0) i) where
  there : place / 64 < length words
  there = omega (arith, inside, enough)

  at_place : word_bit (set words (place / 64) word) place ≡ bit
  at_place = ap (λ w. nat_eq (bit_at w (place % 64)) 1) (get_or-set_same words (place / 64) word 0 there) ∙ has

  at_other : (i : ℕ) → i ≢ place → word_bit (set words (place / 64) word) i ≡ word_bit words i
  at_other i differ =
      elim (cases_eq (i / 64) (place / 64)) [
        | inl same ↦
            let low : i % 64 < 64 = omega arith in
            let apart : i % 64 ≢ place % 64 = λ equal. differ (omega (arith, same, equal)) in
            ap (λ at. nat_eq (bit_at (get_or (set words (place / 64) word) at 0) (i % 64)) 1) same
            ∙ ap (λ w. nat_eq (bit_at w (i % 64)) 1) (get_or-set_same words (place / 64) word 0 there)
            ∙ ap (λ b. nat_eq b 1) (keeps (i % 64) low apart)
            ∙ ap (λ at. nat_eq (bit_at (get_or words at 0) (i % 64)) 1) (sym same)
        | inr apart ↦ ap (λ w. nat_eq (bit_at w (i % 64)) 1) (get_or-set_other words (place / 64) (i / 64) word 0 apart)
      ]

  -- one word was replaced by one that differs in one bit at most
  pub word_bits-set : word_bits (set words (place / 64) word) count ≡ set (word_bits words count) place bit
  word_bits-set =
      ext_get_or false (word_bits (set words (place / 64) word) count) (set (word_bits words count) place bit)
      (length-word_bits (set words (place / 64) word) count ∙ sym (length-set (word_bits words count) place bit ∙ length-word_bits words count))
      (λ i within.
      let in_count : i < count = omega (arith, within, length-word_bits (set words (place / 64) word) count) in
      let in_bits : place < length (word_bits words count) = omega (arith, inside, length-word_bits words count) in
      get_or-word_bits (set words (place / 64) word) count i in_count
      ∙ elim (cases_eq i place) [
        | inl same ↦
            ap (word_bit (set words (place / 64) word)) same ∙ at_place
            ∙ sym (ap (λ at. get_or (set (word_bits words count) place bit) at false) same ∙ get_or-set_same (word_bits words count) place bit false in_bits)
        | inr differ ↦
            at_other i differ ∙ sym (get_or-word_bits words count i in_count) ∙ sym (get_or-set_other (word_bits words count) place i bit false differ)
      ])
