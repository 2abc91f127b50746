-- Digits that are written pair by pair, and piece by piece.
use Rattle.std.proofs.Common.{◌≡◌, ℕ, ◌<◌, ◌+◌, ◌*◌, ◌/◌, ◌%◌, List, [], ◌∷◌, ◌++◌, length, take, set, get_or, sym, ap, ap₂, ◌∙◌, append_assoc, arith}
use Rattle.std.proofs.lemmas.List.{take_more, take_more_set, length-set}
use Rattle.std.proofs.lemmas.List.Concat.{flat_map-append}
use Rattle.vm_script.specs.Texts.{hex_digit, byte_text, hex_text}

-- the two digits of one more byte
pub digits_more : (digits bytes : List ℕ) (i hi lo : ℕ) → 2 * i + 1 < length digits → i < length bytes → hi ≡ hex_digit (get_or bytes i 0 / 16) → lo ≡ hex_digit (get_or bytes i 0 % 16)
    → take (2 * i) digits ≡ hex_text (take i bytes) → take (2 * (i + 1)) (set (set digits (2 * i) hi) (2 * i + 1) lo) ≡ hex_text (take (i + 1) bytes)
digits_more digits bytes i hi lo room at hi_is lo_is before =
    let b = get_or bytes i 0 in
    let one = set digits (2 * i) hi in
    let first : take (2 * i + 1) one ≡ take (2 * i) digits ++ hi ∷ [] = take_more_set digits (2 * i) hi (omega arith) in
    let same = length-set digits (2 * i) hi in
    let second : take (2 * i + 1 + 1) (set one (2 * i + 1) lo) ≡ take (2 * i + 1) one ++ lo ∷ [] = take_more_set one (2 * i + 1) lo (omega arith) in
    let both : 2 * (i + 1) ≡ 2 * i + 1 + 1 = omega arith in
    let bytes_on : take (i + 1) bytes ≡ take i bytes ++ b ∷ [] = take_more bytes i 0 at in
    let pair : hi ∷ lo ∷ [] ≡ byte_text b = ap₂ (λ x y. x ∷ y ∷ []) hi_is lo_is in
    ap (λ n. take n (set one (2 * i + 1) lo)) both
    ∙ (second
    ∙ (ap (λ xs. xs ++ lo ∷ []) (first ∙ ap (λ xs. xs ++ hi ∷ []) before)
    ∙ (append_assoc (hex_text (take i bytes)) (hi ∷ []) (lo ∷ [])
    ∙ (ap (λ xs. hex_text (take i bytes) ++ xs) pair ∙ sym (ap hex_text bytes_on ∙ flat_map-append byte_text (take i bytes) (b ∷ []))))))
