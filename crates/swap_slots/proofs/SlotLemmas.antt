-- The slots that callers see, from the bits that are held. `held` is how a slice of the words was read.
use Rattle.std.proofs.Common.{◌≡◌, ℕ, ◌<◌, Bool, true, false, not, List, length, get_or, set, Some, None, sym, ◌∙◌, ap, arith, ⊎_elim}
use Rattle.std.specs.List.{position}
use Rattle.std.proofs.lemmas.Bool.{cases_lt}
use Rattle.std.proofs.lemmas.List.{get_or_past}
use Rattle.swap_slots.specs.Bits.{is_set, flags, Marks}
use Rattle.swap_slots.proofs.BitLemmas.{flags_length, flags_at, flags_set, flags_first, flags_none}

pub slot_within : (words : List ℕ) (n slot : ℕ) (value : List Bool) → flags words n ≡ value → slot < length value → slot < n
slot_within words n slot value view within = omega (arith, flags_length words n, ap length view)

pub used_within : (words : List ℕ) (n slot : ℕ) (value : List Bool) → flags words n ≡ value → get_or value slot false ≡ true → slot < n
used_within words n slot value view used =
    ⊎_elim (λ lt. lt)
    (λ ge. let off : get_or value slot false ≡ false = get_or_past value slot false (omega (arith, flags_length words n, ap length view)) in
    let clash : true ≡ false = sym used ∙ off in cc)
    (cases_lt slot n)

pub used_flag : (held words : List ℕ) (n slot : ℕ) (value : List Bool) → held ≡ words → flags words n ≡ value → slot < n → is_set held slot ≡ get_or value slot false
used_flag held words n slot value read view within =
    ap (λ (l : List ℕ). is_set l slot) read ∙ sym (flags_at words n slot false within) ∙ ap (λ (l : List Bool). get_or l slot false) view

pub least_first : (held words : List ℕ) (n slot : ℕ) (value : List Bool) → held ≡ words → flags words n ≡ value → slot < n → is_set held slot ≡ false
    → ((k : ℕ) → k < slot → is_set held k ≡ true) → Some slot ≡ position not value
least_first held words n slot value read view within clear first =
    flags_first held n slot within clear first ∙ ap (λ (l : List ℕ). position not (flags l n)) read ∙ ap (λ (l : List Bool). position not l) view

pub least_none : (held words : List ℕ) (n : ℕ) (value : List Bool) → held ≡ words → flags words n ≡ value → ((k : ℕ) → k < n → is_set held k ≡ true) → None ≡ position not value
least_none held words n value read view all =
    flags_none held n all ∙ ap (λ (l : List ℕ). position not (flags l n)) read ∙ ap (λ (l : List Bool). position not l) view

pub written : (held words new kept : List ℕ) (n place : ℕ) (set_to : Bool) (value : List Bool) → kept ≡ new → held ≡ words → flags words n ≡ value
    → Marks held new place set_to → place < n → flags kept n ≡ set value place set_to
written held words new kept n place set_to value stored read view marks within =
    ap (λ (l : List ℕ). flags l n) stored
    ∙ flags_set held new n place set_to marks within
    ∙ ap (λ (l : List ℕ). set (flags l n) place set_to) read
    ∙ ap (λ (l : List Bool). set l place set_to) view
