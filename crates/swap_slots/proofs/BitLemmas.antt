-- Bits in words of 64: what a scan finds, and what a write leaves.
use Rattle.std.proofs.Common.{◌≡◌, ◌≢◌, ℕ, ◌+◌, ◌*◌, ◌/◌, ◌%◌, ◌<◌, ◌≤◌, Bool, true, false, eqb, not, List, length, get_or, set, replicate, Some, None, refl}
use Rattle.std.proofs.Common.{sym, ◌∙◌, ap, subst, arith, ⊎_elim, length-set, get_or-set_same, get_or-set_other}
use Rattle.std.specs.Int.{bit_at}
use Rattle.std.specs.List.{position, position_or_len}
use Rattle.std.proofs.lemmas.Bool.{eqb-true, eqb-false, eq-eqb, ne_eqb, cases_eq, cases_lt, cond-true, cond-false, lt-ltb, le-ltb}
use Rattle.std.proofs.lemmas.Nat.{mod_below, div-add-mod', div-mul-add, mod-mul-add}
use Rattle.std.proofs.lemmas.Nat.Bits.{bit_at_ones, bit_at-lt, bit_at-zero}
use Rattle.std.proofs.lemmas.List.{same_lists, get_or-replicate, length-replicate, get_or_past}
use Rattle.std.proofs.lemmas.List.Sums.{position_or_len_is}
use Rattle.std.proofs.lemmas.List.FromFn.{length-map-range_with_len, get_or-map-range_with_len}
use Rattle.swap_slots.specs.Bits.{is_set, flags, Marks, IsSummary}

-- a clear bit is 0
pub clear_is_zero : (n k : ℕ) → eqb (bit_at n k) 1 ≡ false → bit_at n k ≡ 0
clear_is_zero n k h = omega (arith, bit_at-lt n k, eqb-false (bit_at n k) 1 h)

-- a word with a clear bit isn't full
pub not_full : (n k : ℕ) → k < 64 → bit_at n k ≡ 0 → eqb n 18446744073709551615 ≡ false
not_full n k within clear =
    ne_eqb n 18446744073709551615
    (λ full. let ones : bit_at n k ≡ 1 = ap (λ (m : ℕ). bit_at m k) full ∙ bit_at_ones 64 k within in omega arith)

-- each bit of a full word is set
pub full_flag : (words : List ℕ) (place : ℕ) → get_or words (place / 64) 0 ≡ 18446744073709551615 → is_set words place ≡ true
full_flag words place full =
    eq-eqb _ 1 (ap (λ (m : ℕ). bit_at m (place % 64)) full ∙ bit_at_ones 64 (place % 64) (mod_below place 64 (omega arith)))

-- the word of a clear bit isn't full
pub not_full_flag : (words : List ℕ) (place : ℕ) → is_set words place ≡ false → eqb (get_or words (place / 64) 0) 18446744073709551615 ≡ false
not_full_flag words place clear =
    not_full (get_or words (place / 64) 0) (place % 64) (mod_below place 64 (omega arith)) (clear_is_zero _ (place % 64) clear)

pub word_of : (place i : ℕ) → 64 * i ≤ place → place < 64 * (i + 1) → place / 64 ≡ i
word_of place i low high = omega arith

pub flags_more : (words : List ℕ) (i : ℕ) → get_or words i 0 ≡ 18446744073709551615 → ((k : ℕ) → k < 64 * i → is_set words k ≡ true) → (k : ℕ) → k < 64 * (i + 1) → is_set words k ≡ true
flags_more words i full below k within =
    ⊎_elim (below k)
    (λ high. full_flag words k (ap (λ (w : ℕ). get_or words w 0) (word_of k i high within) ∙ full))
    (cases_lt k (64 * i))

-- the lowest clear bit of the first word that isn't full is the first clear bit
pub full_below : (words full : List ℕ) (i : ℕ) → IsSummary words full → i ≤ length words → ((w : ℕ) → w < i → is_set full w ≡ true) → (k : ℕ) → k < 64 * i → is_set words k ≡ true
full_below words full i summary within all k lt =
    let below : k / 64 < i = omega arith in
    full_flag words k (eqb-true _ 18446744073709551615 (sym (summary.marks (k / 64) (omega arith)) ∙ all (k / 64) below))

pub flags_below_lowest : (words : List ℕ) (i t : ℕ) → t < 64 → ((j : ℕ) → j < t → bit_at (get_or words i 0) j ≡ 1)
    → ((k : ℕ) → k < 64 * i → is_set words k ≡ true) → (k : ℕ) → k < i * 64 + t → is_set words k ≡ true
flags_below_lowest words i t within first below k lt =
    ⊎_elim (below k)
    (λ high. let w : k / 64 ≡ i = word_of k i high (omega arith) in
    let b : k % 64 < t = omega (arith, div-add-mod' k 64) in
    eq-eqb _ 1 (ap (λ (n : ℕ). bit_at (get_or words n 0) (k % 64)) w ∙ first (k % 64) b))
    (cases_lt k (64 * i))

-- a write in a word's bits, and in its index
pub summary_kept : (words new full marked : List ℕ) (place : ℕ) (value : Bool) → IsSummary words full → Marks words new place value
    → (eqb (get_or new (place / 64) 0) 18446744073709551615 ≡ is_set marked (place / 64)) → length marked ≡ length full
    → ((k : ℕ) → k ≢ place / 64 → is_set marked k ≡ is_set full k) → IsSummary new marked
summary_kept words new full marked place value summary marks here same others = record {
  covered = omega (arith, summary.covered, marks.lengths);
  marks = λ w within. ⊎_elim
      (λ e. subst (λ (v : ℕ). is_set marked v ≡ eqb (get_or new v 0) 18446744073709551615) (sym e) (sym here))
      (λ ne. others w ne ∙ summary.marks w (omega (arith, marks.lengths)) ∙ ap (λ (n : ℕ). eqb n 18446744073709551615) (sym (marks.words w ne)))
      (cases_eq w (place / 64));
}

pub marked_here : (old new : List ℕ) (place : ℕ) (value : Bool) → Marks old new place value → is_set new place ≡ value
marked_here old new place value marks = marks.bits place ∙ cond-true (eqb place place) value (is_set old place) (eq-eqb place place refl)

pub marked_elsewhere : (old new : List ℕ) (place : ℕ) (value : Bool) → Marks old new place value → (k : ℕ) → k ≢ place → is_set new k ≡ is_set old k
marked_elsewhere old new place value marks k ne = marks.bits k ∙ cond-false (eqb k place) value (is_set old k) (ne_eqb k place ne)

-- the list of flags
pub flags_length : (words : List ℕ) (n : ℕ) → length (flags words n) ≡ n
flags_length words n = length-map-range_with_len (is_set words) 0 n

pub flags_at : (words : List ℕ) (n k : ℕ) (d : Bool) → k < n → get_or (flags words n) k d ≡ is_set words k
flags_at words n k d within = get_or-map-range_with_len (is_set words) 0 n k k d within (omega arith)

pub flags_set : (old new : List ℕ) (n place : ℕ) (value : Bool) → Marks old new place value → place < n → flags new n ≡ set (flags old n) place value
flags_set old new n place value marks within =
    same_lists _ _ (flags_length new n ∙ sym (length-set (flags old n) place value ∙ flags_length old n))
    (λ k d lt. let short : k < n = omega (arith, flags_length new n) in
    flags_at new n k d short ∙ ⊎_elim
    (λ e. subst (λ (j : ℕ). is_set new j ≡ get_or (set (flags old n) place value) j d) (sym e)
    (marked_here old new place value marks ∙ sym (get_or-set_same (flags old n) place value d (omega (arith, flags_length old n)))))
    (λ ne. marked_elsewhere old new place value marks k ne ∙ sym (get_or-set_other (flags old n) place k value d ne ∙ flags_at old n k d short))
    (cases_eq k place))

pub flags_first : (words : List ℕ) (n place : ℕ) → place < n → is_set words place ≡ false → ((k : ℕ) → k < place → is_set words k ≡ true) → Some place ≡ position not (flags words n)
flags_first words n place within clear first =
    let at : position_or_len not (flags words n) ≡ place = position_or_len_is not (flags words n) place true (omega (arith, flags_length words n))
    (λ k lt. ap not (flags_at words n k true (omega arith) ∙ first k lt))
    (λ lt. ap not (flags_at words n place true within ∙ clear)) in
    let short : position_or_len not (flags words n) < length (flags words n) = omega (arith, flags_length words n) in
    sym (cond-true _ _ _ (lt-ltb _ _ short) ∙ ap Some at)

pub flags_none : (words : List ℕ) (n : ℕ) → ((k : ℕ) → k < n → is_set words k ≡ true) → None ≡ position not (flags words n)
flags_none words n all =
    let at : position_or_len not (flags words n) ≡ n = position_or_len_is not (flags words n) n true (omega (arith, flags_length words n))
    (λ k lt. ap not (flags_at words n k true lt ∙ all k lt))
    (λ lt. absurd (omega (arith, flags_length words n))) in
    let long : length (flags words n) ≤ position_or_len not (flags words n) = omega (arith, flags_length words n) in
    sym (cond-false _ _ _ (le-ltb _ _ long))

-- words of zeros have no bit set
abbrev pub zeros : ℕ → List ℕ
zeros count = replicate count 0

zero_word : (count i : ℕ) → get_or (zeros count) i 0 ≡ 0
zero_word count i =
    ⊎_elim (λ lt. get_or-replicate count i 0 0 lt) (λ ge. get_or_past (zeros count) i 0 (omega (arith, length-replicate {A = ℕ} count 0))) (cases_lt i count)

zero_flag : (count k : ℕ) → is_set (zeros count) k ≡ false
zero_flag count k =
    ne_eqb (bit_at (get_or (zeros count) (k / 64) 0) (k % 64)) 1
    (λ one. let zero : bit_at (get_or (zeros count) (k / 64) 0) (k % 64) ≡ 0 = ap (λ (n : ℕ). bit_at n (k % 64)) (zero_word count (k / 64)) ∙ bit_at-zero (k % 64) in
    omega arith)

pub flags_zero : (count n : ℕ) → flags (zeros count) n ≡ replicate n false
flags_zero count n =
    same_lists _ _ (flags_length _ n ∙ sym (length-replicate n false))
    (λ k d lt. let short : k < n = omega (arith, flags_length (zeros count) n) in
    flags_at _ n k d short ∙ zero_flag count k ∙ sym (get_or-replicate n k false d short))
