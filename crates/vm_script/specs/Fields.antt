-- The fields of a script's lines: words, numbers, names and bytes. Public clauses cite this.
use Rattle.std.specs.Prelude.{ℕ, ◌+◌, ◌-◌, ◌*◌, ◌%◌, ◌^◌, ◌==◌, Bool, not, ◌&&◌, ◌||◌, List, [], ◌∷◌, length, fold, codes, nat_eq, nat_le, nat_lt, take, drop, Option, Some, None, if◌then◌else◌}
use Rattle.std.specs.List.{list_all}
use Rattle.std.specs.Cmp.Lexicographic.{pointwise}

-- The field is this word.
abbrev pub is_word : List ℕ → List ℕ → Bool
is_word field word = pointwise nat_eq field word

-- The field begins with this word.
abbrev pub has_front : List ℕ → List ℕ → Bool
has_front word field = pointwise nat_eq (take (length word) field) word

-- A decimal digit.
abbrev pub is_digit : ℕ → Bool
is_digit b = nat_le 48 b && nat_le b 57

-- A hexadecimal digit, in upper or lower case.
abbrev pub is_hex_digit : ℕ → Bool
is_hex_digit b = is_digit b || (nat_le 65 b && nat_le b 70) || (nat_le 97 b && nat_le b 102)

-- The value of a hexadecimal digit.
abbrev pub digit_value : ℕ → ℕ
digit_value b = if nat_le b 57 then b - 48 else if nat_le b 70 then b - 55 else b - 87

-- The value of digits in a base, the first the highest.
abbrev pub value_of_digits : ℕ → List ℕ → ℕ
value_of_digits base digits = fold (λ n b. base * n + digit_value b) 0 digits

-- The value of 1 to `most` digits that pass a test, if it is below 2^32.
unfoldable pub digits_at : ℕ → ℕ → (ℕ → Bool) → List ℕ → Option ℕ
digits_at base most is_right digits =
    if nat_le 1 (length digits) && nat_le (length digits) most && list_all is_right digits && nat_lt (value_of_digits base digits) (2 ^ 32) then Some (value_of_digits base digits) else None

-- A number is 1 to 10 decimal digits, or 0x and 1 to 8 hexadecimal digits, and is below 2^32.
unfoldable pub number_of_field : List ℕ → Option ℕ
number_of_field field = if has_front (codes "0x") field then digits_at 16 8 is_hex_digit (drop 2 field) else digits_at 10 10 is_digit field

-- A letter of a name: a small letter, a digit, an underscore, a dot or a minus sign.
abbrev pub is_name_letter : ℕ → Bool
is_name_letter b = (nat_le 97 b && nat_le b 122) || is_digit b || (b == 95) || (b == 46) || (b == 45)

-- A name is 1 to 16 such bytes, and isn't `zero`.
abbrev pub is_file_name : List ℕ → Bool
is_file_name field = nat_le 1 (length field) && nat_le (length field) 16 && list_all is_name_letter field && not (is_word field (codes "zero"))

-- The bytes of pairs of hexadecimal digits.
abbrev pub hex_bytes : List ℕ → List ℕ
hex_bytes [] = []
hex_bytes (high ∷ []) = []
hex_bytes (high ∷ low ∷ rest) = (16 * digit_value high + digit_value low) ∷ hex_bytes rest

-- Bytes are an even number of hexadecimal digits, for 1 to 65,536 bytes.
unfoldable pub bytes_of_field : List ℕ → Option (List ℕ)
bytes_of_field field =
    if (length field % 2 == 0) && nat_le 2 (length field) && nat_le (length field) 131072 && list_all is_hex_digit field then Some (hex_bytes field) else None
