-- Numbers and bytes that were printed are read again.
use Rattle.std.proofs.Common.{◌≡◌, ℕ, zero, suc, ◌≤◌, ◌<◌, ◌^◌, ◌+◌, ◌*◌, ◌/◌, ◌%◌, true, ◌&&◌, List, [], ◌∷◌, length, fold, Some, None, refl, ap, ◌∙◌, arith, rules, tests, lit<, ⊎_elim, subst, sym}
use Rattle.std.specs.Prelude.{All, decimal, nat_lt, nat_le, if◌then◌else◌}
use Rattle.std.proofs.lemmas.Bool.Decides.{nat_tests}
use Rattle.std.proofs.lemmas.Fmt.{length-decimal-le}
use Rattle.std.proofs.lemmas.List.Elements.{All-nil, All-cons, All-head, All-tail}
use Rattle.vm_report.specs.vm_types.WellFormed.{IsNumber}
use Rattle.vm_report.specs.vm_types.Words.{IsByte, IsWordSize, FitsWord, word_value, word_bytes}
use Rattle.vm_report.specs.vm_script.Fields.{digit_value}
use Rattle.vm_report.specs.vm_script.Texts.{hex_digit, hex_text}
use Rattle.vm_report.proofs.vm_script.Printing.{digits_of_decimal, value_of_decimal, some_decimal, hex_digit_back, hex_all, hex_back, hex_count}
use Rattle.vm_report.specs.Texts.{word_text}
use Rattle.trace_text.specs.EntryReading.{long_number_in, number_in, mask_in, offset_in, word_in, bytes_in}

-- decimal digits
pub long_number_again : (n : ℕ) → n < 2 ^ 64 → long_number_in (decimal n) ≡ Some n
unfolding long_number_in
long_number_again n small =
    let all = digits_of_decimal n small in
    let some = some_decimal n small in
    let few : length (decimal n) ≤ 20 = length-decimal-le 20 n (lit< tt) (omega (arith, small)) small in
    let value = value_of_decimal n small in
    rw (all, value) (tests_of (length (decimal n)) some few)
  where
    tests_of : (k : ℕ) → 1 ≤ k → k ≤ 20 → (if nat_le 1 k && nat_le k 20 && true && nat_lt n (2 ^ 64) then Some n else None) ≡ Some n
    tests_of k low high = grind (rules, tests, arith, nat_tests, low, high, small)

fits_32 : (n : ℕ) → n < 2 ^ 32 → (if nat_lt n (2 ^ 32) then Some n else None) ≡ Some n
fits_32 n small = grind (rules, tests, arith, nat_tests, small)

pub number_again : (n : ℕ) → IsNumber n → number_in (decimal n) ≡ Some n
unfolding number_in
number_again n small = rw (long_number_again n (omega (arith, small))) (fits_32 n small)

-- hexadecimal digits
value_of_hex : (bytes : List ℕ) (v : ℕ) → All IsByte bytes → fold (λ n b. 16 * n + digit_value b) v (hex_text bytes) ≡ fold (λ n b. 256 * n + b) v bytes
value_of_hex [] v all = refl
value_of_hex (b ∷ bytes) v all =
    let byte : b < 256 = All-head IsByte b bytes all in
    let high = hex_digit_back (b / 16) (omega (arith, byte)) in
    let low = hex_digit_back (b % 16) (omega arith) in
    let first : 16 * (16 * v + digit_value (hex_digit (b / 16))) + digit_value (hex_digit (b % 16)) ≡ 256 * v + b = omega (arith, high, low) in
    ap (λ u. fold (λ n x. 16 * n + digit_value x) u (hex_text bytes)) first ∙ value_of_hex bytes (256 * v + b) (All-tail IsByte b bytes all)

pub are_bytes : (n v : ℕ) → All IsByte (word_bytes n v)
are_bytes zero v = All-nil IsByte
are_bytes (suc n) v = All-cons IsByte (v / 256 ^ n % 256) (word_bytes n v) (omega arith) (are_bytes n v)

mask_of_hex : (bytes : List ℕ) → All IsByte bytes → 1 ≤ length bytes → length bytes ≤ 8 → mask_in (hex_text bytes) ≡ Some (word_value bytes)
unfolding mask_in
mask_of_hex bytes all low high =
    let count = hex_count bytes in
    rw (hex_all bytes all, value_of_hex bytes 0 all) (tests_of (length (hex_text bytes)) (length bytes) count low high)
  where
    tests_of : (k n : ℕ) → k ≡ 2 * n → 1 ≤ n → n ≤ 8 → (if nat_le 1 k && nat_le k 16 && true then Some (word_value bytes) else None) ≡ Some (word_value bytes)
    tests_of k n e low high = grind (rules, tests, arith, nat_tests, e, low, high)

value_1 : (v : ℕ) → v < 2 ^ 8 → word_value (word_bytes 1 v) ≡ v
value_1 v small = omega (arith, small)

value_2 : (v : ℕ) → v < 2 ^ 16 → word_value (word_bytes 2 v) ≡ v
value_2 v small = omega (arith, small)

value_4 : (v : ℕ) → v < 2 ^ 32 → word_value (word_bytes 4 v) ≡ v
value_4 v small = omega (arith, small)

value_8 : (v : ℕ) → v < 2 ^ 64 → word_value (word_bytes 8 v) ≡ v
value_8 v small = omega (arith, small)

pub mask_again : (v : ℕ) → v < 2 ^ 64 → mask_in (hex_text (word_bytes 8 v)) ≡ Some v
mask_again v small = mask_of_hex (word_bytes 8 v) (are_bytes 8 v) (omega arith) (omega arith) ∙ ap Some (value_8 v small)

offset_of : (bytes : List ℕ) (v : ℕ) → All IsByte bytes → 1 ≤ length bytes → length bytes ≤ 8 → word_value bytes ≡ v → v < 2 ^ 32 → offset_in (hex_text bytes) ≡ Some v
unfolding offset_in
offset_of bytes v all low high is small = rw (mask_of_hex bytes all low high ∙ ap Some is) (fits_32 v small)

pub offset_again : (v : ℕ) → v < 2 ^ 32 → offset_in (hex_text (word_bytes 4 v)) ≡ Some v
offset_again v small = offset_of (word_bytes 4 v) v (are_bytes 4 v) (omega arith) (omega arith) (value_4 v small) small

word_of : (n v : ℕ) → offset_in (hex_text (word_bytes n v)) ≡ Some v → word_in (word_text n v) ≡ Some v
unfolding word_in
word_of n v is = is

pub address_again : (v : ℕ) → IsNumber v → word_in (word_text 4 v) ≡ Some v
address_again v small = word_of 4 v (offset_again v small)

word_again_1 : (v : ℕ) → FitsWord 1 v → word_in (word_text 1 v) ≡ Some v
word_again_1 v small = word_of 1 v (offset_of (word_bytes 1 v) v (are_bytes 1 v) (omega arith) (omega arith) (value_1 v small) (omega (arith, small)))

word_again_2 : (v : ℕ) → FitsWord 2 v → word_in (word_text 2 v) ≡ Some v
word_again_2 v small = word_of 2 v (offset_of (word_bytes 2 v) v (are_bytes 2 v) (omega arith) (omega arith) (value_2 v small) (omega (arith, small)))

pub word_again : (n v : ℕ) → IsWordSize n → FitsWord n v → word_in (word_text n v) ≡ Some v
word_again n v size fits =
    let P : ℕ → Type 0 = λ m. FitsWord m v → word_in (word_text m v) ≡ Some v in
    ⊎_elim (λ one. subst P (sym one) (word_again_1 v) fits) (λ more. ⊎_elim (λ two. subst P (sym two) (word_again_2 v) fits) (λ four. subst P (sym four) (address_again v) fits) more) size

pub bytes_again : (bytes : List ℕ) → All IsByte bytes → length bytes ≤ 64 → bytes_in (hex_text bytes) ≡ Some bytes
unfolding bytes_in
bytes_again bytes all few =
    let count = hex_count bytes in
    rw (hex_all bytes all, hex_back bytes all) (tests_of (length (hex_text bytes)) (length bytes) count few)
  where
    tests_of : (k n : ℕ) → k ≡ 2 * n → n ≤ 64 → (if nat_le k 128 && true then Some bytes else None) ≡ Some bytes
    tests_of k n e few = grind (rules, tests, arith, nat_tests, e, few)
