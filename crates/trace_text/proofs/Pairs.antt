-- Bytes that are put one by one over zeros, by pairs of digits.
use Rattle.vm_report.proofs.vm_script.Placed.{and_right}
use Rattle.std.proofs.lemmas.Bool.{and_from as both}
use Rattle.vm_report.proofs.flat_model.Histories.{io_aside as and_left}
use Rattle.std.proofs.Common.{◌≡◌, ℕ, zero, suc, ◌≤◌, ◌<◌, ◌+◌, ◌-◌, ◌*◌, true, List, [], ◌∷◌, ◌++◌, length, take, drop, set, get_or, refl, ap, ap₂, ◌∙◌, append_assoc, arith, IsTrue}
use Rattle.std.specs.List.{list_all}
use Rattle.std.proofs.lemmas.List.{take_all, take_more_set}
use Rattle.vm_report.specs.vm_script.Fields.{is_hex_digit, digit_value, hex_bytes}

pub pair_more : (bytes left all : List ℕ) (count a b : ℕ) → count < length bytes → 2 ≤ length left → a ≡ digit_value (get_or left 0 0)
    → b ≡ digit_value (get_or left 1 0) → take count bytes ++ hex_bytes left ≡ all
    → take (count + 1) (set bytes count (16 * a + b)) ++ hex_bytes (take (length left - 2) (drop 2 left)) ≡ all
pair_more bytes [] all count a b room two is_a is_b before = absurd (omega (arith, two))
pair_more bytes (high ∷ []) all count a b room two is_a is_b before = absurd (omega (arith, two))
pair_more bytes (high ∷ low ∷ rest) all count a b room two is_a is_b before =
    let v : 16 * a + b ≡ 16 * digit_value high + digit_value low = ap₂ (λ x y. 16 * x + y) is_a is_b in
    let behind : take (length (high ∷ low ∷ rest) - 2) rest ≡ rest = take_all (length (high ∷ low ∷ rest) - 2) rest (omega arith) in
    ap₂ (λ t r. t ++ hex_bytes r) (take_more_set bytes count (16 * a + b) room ∙ ap (λ x. take count bytes ++ x ∷ []) v) behind
    ∙ (append_assoc (take count bytes) ((16 * digit_value high + digit_value low) ∷ []) (hex_bytes rest) ∙ before)

digits_front : (n : ℕ) (xs : List ℕ) → list_all is_hex_digit xs ≡ true → list_all is_hex_digit (take n xs) ≡ true
digits_front zero xs all = refl
digits_front (suc n) [] all = refl
digits_front (suc n) (x ∷ xs) all =
    let here = and_left (is_hex_digit x) (list_all is_hex_digit xs) all in
    both (is_hex_digit x) (list_all is_hex_digit (take n xs)) here (digits_front n xs (and_right (is_hex_digit x) (list_all is_hex_digit xs) all))

digits_behind : (xs : List ℕ) → list_all is_hex_digit xs ≡ true → list_all is_hex_digit (drop 2 xs) ≡ true
digits_behind [] all = refl
digits_behind (a ∷ []) all = refl
digits_behind (a ∷ b ∷ xs) all =
    and_right (is_hex_digit b) (list_all is_hex_digit xs) (and_right (is_hex_digit a) (list_all is_hex_digit (b ∷ xs)) all)

pub digits_left : (n : ℕ) (xs : List ℕ) → IsTrue (list_all is_hex_digit xs) → IsTrue (list_all is_hex_digit (take n (drop 2 xs)))
digits_left n xs all = digits_front n (drop 2 xs) (digits_behind xs all)
