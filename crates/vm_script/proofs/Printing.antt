-- A script that is printed plainly is read as what was printed.
use Rattle.vm_script.proofs.Placed.{and_right}
use Rattle.flat_model.proofs.Histories.{io_aside as and_left}
use Rattle.std.proofs.Common.{◌≡◌, ℕ, ◌≤◌, ◌<◌, ◌^◌, ◌+◌, ◌*◌, ◌/◌, ◌%◌, ◌==◌, Bool, true, false, not, ◌&&◌, List, [], ◌∷◌, ◌++◌, length, fold, Some}
use Rattle.std.proofs.Common.{None, refl, ap, ap₂, ◌∙◌, arith, rules, tests, cond, length-append, lit<}
use Rattle.std.specs.Prelude.{All, IsTrue, codes, decimal, filter, nat_lt, nat_le, if◌then◌else◌}
use Rattle.std.specs.List.{list_all, slice_split, onto_first}
use Rattle.std.proofs.lemmas.Bool.{and_from as both}
use Rattle.std.proofs.lemmas.Bool.Decides.{nat_tests}
use Rattle.std.proofs.lemmas.Fmt.{decimal_by_steps, length-decimal-le}
use Rattle.std.proofs.lemmas.List.Elements.{All-head, All-tail}
use Rattle.flat_model.specs.vm_types.WellFormed.{IsNumber}
use Rattle.flat_model.specs.vm_types.Words.{IsByte}
use Rattle.vm_script.specs.Fields.{is_word, has_front, is_digit, is_hex_digit, digit_value, value_of_digits, digits_at, number_of_field, is_name_letter, is_file_name, hex_bytes, bytes_of_field}
use Rattle.vm_script.specs.Lines.{is_graphic, is_feed, is_space, is_plain, isnt_empty, fields, lines}
use Rattle.vm_script.specs.Quick.{AreWords, more}
use Rattle.vm_script.specs.Texts.{hex_digit, hex_text}
use Rattle.vm_script.specs.Printed.{line_of_fields}

pub all_implies : (p q : ℕ → Bool) → ((b : ℕ) → p b ≡ true → q b ≡ true) → (xs : List ℕ) → list_all p xs ≡ true → list_all q xs ≡ true
all_implies p q imp [] all = refl
all_implies p q imp (x ∷ xs) all = both (q x) (list_all q xs) (imp x (and_left (p x) (list_all p xs) all)) (all_implies p q imp xs (and_right (p x) (list_all p xs) all))

all_append : (p : ℕ → Bool) (xs ys : List ℕ) → list_all p xs ≡ true → list_all p ys ≡ true → list_all p (xs ++ ys) ≡ true
all_append p [] ys a b = b
all_append p (x ∷ xs) ys a b = both (p x) (list_all p (xs ++ ys)) (and_left (p x) (list_all p xs) a) (all_append p xs ys (and_right (p x) (list_all p xs) a) b)

-- decimal digits
digit_is : (n : ℕ) → n < 10 → is_digit (48 + n) ≡ true
digit_is n lt = grind (rules, tests, arith, nat_tests, lt)

pub digits_of_decimal : (n : ℕ) → n < 2 ^ 64 → list_all is_digit (decimal n) ≡ true
digits_of_decimal = decimal_by_steps (λ n ds. list_all is_digit ds ≡ true)
    (λ n lt. both (is_digit (48 + n)) true (digit_is n lt) refl)
    (λ n ds le ih. all_append is_digit ds ((48 + n % 10) ∷ []) ih (both (is_digit (48 + n % 10)) true (digit_is (n % 10) (omega arith)) refl))

value_step : (ds : List ℕ) (d v : ℕ) → fold (λ n b. 10 * n + digit_value b) v (ds ++ d ∷ []) ≡ 10 * fold (λ n b. 10 * n + digit_value b) v ds + digit_value d
value_step [] d v = refl
value_step (x ∷ ds) d v = value_step ds d (10 * v + digit_value x)

digit_back : (n : ℕ) → n < 10 → digit_value (48 + n) ≡ n
digit_back n lt = grind (rules, tests, arith, nat_tests, lt)

pub value_of_decimal : (n : ℕ) → n < 2 ^ 64 → value_of_digits 10 (decimal n) ≡ n
value_of_decimal = decimal_by_steps (λ n ds. value_of_digits 10 ds ≡ n)
    (λ n lt. let e = digit_back n lt in omega (arith, e))
    (λ n ds le ih. let e = digit_back (n % 10) (omega arith) in let s = value_step ds (48 + n % 10) 0 in omega (arith, e, s, ih))

pub some_decimal : (n : ℕ) → n < 2 ^ 64 → 1 ≤ length (decimal n)
some_decimal = decimal_by_steps (λ n ds. 1 ≤ length ds) (λ n lt. omega arith) (λ n ds le ih. omega (arith, length-append ds ((48 + n % 10) ∷ [])))

pub no_prefix : (ds : List ℕ) → list_all is_digit ds ≡ true → has_front (codes "0x") ds ≡ false
no_prefix [] all = refl
no_prefix (a ∷ []) all = grind (rules, tests, arith, nat_tests)
no_prefix (a ∷ b ∷ ds) all =
    let second : is_digit b ≡ true = and_left (is_digit b) (list_all is_digit ds) (and_right (is_digit a) (list_all is_digit (b ∷ ds)) all) in
    grind (rules, tests, arith, nat_tests, second)

pub number_text : (n : ℕ) → IsNumber n → number_of_field (decimal n) ≡ Some n
unfolding number_of_field digits_at
number_text n small =
    let wide : n < 2 ^ 64 = omega (arith, small) in
    let all = digits_of_decimal n wide in
    let some = some_decimal n wide in
    let few : length (decimal n) ≤ 10 = length-decimal-le 10 n (lit< tt) (omega (arith, small)) wide in
    let value = value_of_decimal n wide in
    rw (no_prefix (decimal n) all) (rw (all, value) (tests_of (length (decimal n)) some few))
  where
    tests_of : (k : ℕ) → 1 ≤ k → k ≤ 10 → (if nat_le 1 k && nat_le k 10 && true && nat_lt n (2 ^ 32) then Some n else None) ≡ Some n
    tests_of k low high = grind (rules, tests, arith, nat_tests, low, high, small)

pub graphic_decimal : (n : ℕ) → IsNumber n → list_all is_graphic (decimal n) ≡ true
graphic_decimal n small = all_implies is_digit is_graphic (λ b is. grind (rules, tests, arith, nat_tests, is)) (decimal n) (digits_of_decimal n (omega (arith, small)))

pub some_isnt_empty : (xs : List ℕ) → 1 ≤ length xs → isnt_empty xs ≡ true
some_isnt_empty [] some = absurd (omega (arith, some))
some_isnt_empty (x ∷ xs) some = refl

pub not_any : (xs : List ℕ) → list_all is_digit xs ≡ true → is_word xs (codes "any") ≡ false
not_any [] all = refl
not_any (x ∷ xs) all = let first : is_digit x ≡ true = and_left (is_digit x) (list_all is_digit xs) all in grind (rules, tests, arith, nat_tests, first)

-- hexadecimal digits
hex_digit_is : (d : ℕ) → d < 16 → is_hex_digit (hex_digit d) ≡ true
hex_digit_is d lt = grind (rules, tests, arith, nat_tests, lt)

pub hex_digit_back : (d : ℕ) → d < 16 → digit_value (hex_digit d) ≡ d
hex_digit_back d lt = grind (rules, tests, arith, nat_tests, lt)

pub hex_all : (bytes : List ℕ) → All IsByte bytes → list_all is_hex_digit (hex_text bytes) ≡ true
hex_all [] all = refl
hex_all (b ∷ bytes) all =
    let byte : b < 256 = All-head IsByte b bytes all in
    both (is_hex_digit (hex_digit (b / 16))) (is_hex_digit (hex_digit (b % 16)) && list_all is_hex_digit (hex_text bytes)) (hex_digit_is (b / 16) (omega (arith, byte)))
    (both (is_hex_digit (hex_digit (b % 16))) (list_all is_hex_digit (hex_text bytes)) (hex_digit_is (b % 16) (omega arith)) (hex_all bytes (All-tail IsByte b bytes all)))

pub hex_back : (bytes : List ℕ) → All IsByte bytes → hex_bytes (hex_text bytes) ≡ bytes
hex_back [] all = refl
hex_back (b ∷ bytes) all =
    let byte : b < 256 = All-head IsByte b bytes all in
    let high = hex_digit_back (b / 16) (omega (arith, byte)) in
    let low = hex_digit_back (b % 16) (omega arith) in
    let first : 16 * digit_value (hex_digit (b / 16)) + digit_value (hex_digit (b % 16)) ≡ b = omega (arith, high, low) in
    ap₂ (λ x xs. x ∷ xs) first (hex_back bytes (All-tail IsByte b bytes all))

pub hex_count : (bytes : List ℕ) → length (hex_text bytes) ≡ 2 * length bytes
hex_count [] = refl
hex_count (b ∷ bytes) = let ih = hex_count bytes in omega (arith, ih)

pub bytes_text_back : (bytes : List ℕ) → All IsByte bytes → 1 ≤ length bytes → length bytes ≤ 65536 → bytes_of_field (hex_text bytes) ≡ Some bytes
unfolding bytes_of_field
bytes_text_back bytes all low high =
    let count = hex_count bytes in
    rw (hex_all bytes all, hex_back bytes all) (tests_of (length (hex_text bytes)) (length bytes) count low high)
  where
    tests_of : (k n : ℕ) → k ≡ 2 * n → 1 ≤ n → n ≤ 65536 → (if (k % 2 == 0) && nat_le 2 k && nat_le k 131072 && true then Some bytes else None) ≡ Some bytes
    tests_of k n e low high = grind (rules, tests, arith, nat_tests, e, low, high)

pub graphic_hex : (bytes : List ℕ) → All IsByte bytes → list_all is_graphic (hex_text bytes) ≡ true
graphic_hex bytes all = all_implies is_hex_digit is_graphic (λ b is. grind (rules, tests, arith, nat_tests, is)) (hex_text bytes) (hex_all bytes all)

pub not_dash : (xs : List ℕ) → list_all is_hex_digit xs ≡ true → is_word xs (codes "-") ≡ false
not_dash [] all = refl
not_dash (x ∷ xs) all = let first : is_hex_digit x ≡ true = and_left (is_hex_digit x) (list_all is_hex_digit xs) all in grind (rules, tests, arith, nat_tests, first)

-- lines and their fields
pub split_word : (f rest : List ℕ) → list_all is_graphic f ≡ true → slice_split is_space (f ++ 32 ∷ rest) ≡ f ∷ slice_split is_space rest
split_word [] rest all = refl
split_word (b ∷ f) rest all =
    let ih = split_word f rest (and_right (is_graphic b) (list_all is_graphic f) all) in
    let here : is_graphic b ≡ true = and_left (is_graphic b) (list_all is_graphic f) all in
    let no_space : is_space b ≡ false = grind (rules, tests, arith, nat_tests, here) in
    ap (λ t. cond t ([] ∷ slice_split is_space (f ++ 32 ∷ rest)) (onto_first b (slice_split is_space (f ++ 32 ∷ rest)))) no_space ∙ ap (onto_first b) ih

pub split_last : (f : List ℕ) → list_all is_graphic f ≡ true → slice_split is_space f ≡ f ∷ []
split_last [] all = refl
split_last (b ∷ f) all =
    let ih = split_last f (and_right (is_graphic b) (list_all is_graphic f) all) in
    let here : is_graphic b ≡ true = and_left (is_graphic b) (list_all is_graphic f) all in
    let no_space : is_space b ≡ false = grind (rules, tests, arith, nat_tests, here) in
    ap (λ t. cond t ([] ∷ slice_split is_space f) (onto_first b (slice_split is_space f))) no_space ∙ ap (onto_first b) ih

pub fields_joined : (fs : List (List ℕ)) → AreWords fs → fields (line_of_fields fs) ≡ fs
fields_joined [] h = refl
fields_joined (f ∷ []) (more gr some h) = ap (filter isnt_empty) (split_last f gr) ∙ ap (λ t. cond t (f ∷ []) []) some
fields_joined (f ∷ g ∷ fs) (more gr some h) =
    ap (filter isnt_empty) (split_word f (line_of_fields (g ∷ fs)) gr)
    ∙ (ap (λ t. cond t (f ∷ fields (line_of_fields (g ∷ fs))) (fields (line_of_fields (g ∷ fs)))) some ∙ ap (λ xs. f ∷ xs) (fields_joined (g ∷ fs) h))

graphic_plain : (f : List ℕ) → list_all is_graphic f ≡ true → list_all is_plain f ≡ true
graphic_plain f all = all_implies is_graphic is_plain (λ b is. grind (rules, tests, arith, nat_tests, is)) f all

pub plain_joined : (fs : List (List ℕ)) → AreWords fs → list_all is_plain (line_of_fields fs) ≡ true
plain_joined [] h = refl
plain_joined (f ∷ []) (more gr some h) = graphic_plain f gr
plain_joined (f ∷ g ∷ fs) (more gr some h) = all_append is_plain f (32 ∷ line_of_fields (g ∷ fs)) (graphic_plain f gr) (plain_joined (g ∷ fs) h)

pub lines_joined : (l rest : List ℕ) → list_all is_plain l ≡ true → lines (l ++ 10 ∷ rest) ≡ l ∷ lines rest
lines_joined [] rest all = refl
lines_joined (b ∷ l) rest all =
    let ih = lines_joined l rest (and_right (is_plain b) (list_all is_plain l) all) in
    let here : is_plain b ≡ true = and_left (is_plain b) (list_all is_plain l) all in
    let no_feed : is_feed b ≡ false = grind (rules, tests, arith, nat_tests, here) in
    ap (λ t. cond t ([] ∷ lines (l ++ 10 ∷ rest)) (onto_first b (lines (l ++ 10 ∷ rest)))) no_feed ∙ ap (onto_first b) ih

pub words_number : (n : ℕ) {fs : List (List ℕ)} → IsNumber n → AreWords fs → AreWords (decimal n ∷ fs)
words_number n small h = more (graphic_decimal n small) (some_isnt_empty (decimal n) (some_decimal n (omega (arith, small)))) h

pub words_bytes : (bytes : List ℕ) {fs : List (List ℕ)} → All IsByte bytes → 1 ≤ length bytes → AreWords fs → AreWords (hex_text bytes ∷ fs)
words_bytes bytes all some h = more (graphic_hex bytes all) (some_isnt_empty (hex_text bytes) (let c = hex_count bytes in omega (arith, c, some))) h

pub words_name : (name : List ℕ) {fs : List (List ℕ)} → IsTrue (is_file_name name) → AreWords fs → AreWords (name ∷ fs)
words_name name is h = more graphic_name (some_isnt_empty name long) h
  where
    whole : is_file_name name ≡ true
    whole = is

    front : (nat_le 1 (length name) && nat_le (length name) 16 && list_all is_name_letter name) ≡ true
    front = and_left (nat_le 1 (length name) && nat_le (length name) 16 && list_all is_name_letter name) (not (is_word name (codes "zero"))) whole

    graphic_name : list_all is_graphic name ≡ true
    graphic_name =
        all_implies is_name_letter is_graphic (λ b is. grind (rules, tests, arith, nat_tests, is)) name
        (and_right (nat_le 1 (length name) && nat_le (length name) 16) (list_all is_name_letter name) front)

    long : 1 ≤ length name
    long =
        let t = and_left (nat_le 1 (length name)) (nat_le (length name) 16)
        (and_left (nat_le 1 (length name) && nat_le (length name) 16) (list_all is_name_letter name) front) in
        grind (arith, nat_tests, t)
