-- What is kept agrees again after each change of a count.
use Rattle.std.proofs.Common.{zero, suc, ltb, ◌≡◌, ℕ, ◌+◌, ◌-◌, ◌<◌, ◌^◌, ◌==◌, Bool, true, false, not, cond, List, [], ◌∷◌, length, map, get_or, set}
use Rattle.std.proofs.Common.{replicate, Some, None, refl, sym, ◌∙◌, ap, subst, arith, ⊎_elim, length-set}
use Rattle.std.specs.Option.{IsSome, is_some}
use Rattle.std.specs.List.{position, position_or_len, count_by}
use Rattle.std.proofs.lemmas.Bool.{cases_Bool, eqb-true, ne_eqb, cases_lt, cond-true, lt-ltb}
use Rattle.std.proofs.lemmas.List.{map-set, set-get_or, get_or-map, get_or_past, length-map, length-replicate}
use Rattle.std.proofs.lemmas.List.Sums.{sum_by-set, sum_by-cons}
use Rattle.std.proofs.lemmas.List.Folds.{sum_by-replicate}
use Rattle.std.proofs.lemmas.List.Quantifiers.{position-Some}
use Rattle.anon_slots.specs.Slots.{is_used, IsKeptAnonSlots, IsSoundAnonSlots}

-- how much a count adds to the number of slots in use
abbrev pub weight : ℕ → ℕ
weight count = cond (is_used count) 1 0

pub used_from : (count : ℕ) → 0 < count → is_used count ≡ true
used_from count some = ap not (ne_eqb count 0 (λ e. omega arith))

pub within_from : (counts : List ℕ) (slot : ℕ) → 0 < get_or counts slot 0 → slot < length counts
within_from counts slot some =
    ⊎_elim (λ lt. lt) (λ ge. absurd (omega (arith, get_or_past counts slot 0 ge))) (cases_lt slot (length counts))

pub map-replicate : (n : ℕ) → replicate n false ≡ map is_used (replicate n 0)
map-replicate zero = refl
map-replicate (suc n) = ap (λ (l : List Bool). false ∷ l) (map-replicate n)

pub kept_none : (n : ℕ) → n < 2 ^ 32 → IsKeptAnonSlots (replicate n false) (replicate n 0) (replicate n false) 0 0
kept_none n fits = record {
  marked = map-replicate n;
  lengths = length-replicate n false ∙ sym (length-replicate {A = ℕ} n 0);
  counted = sym (sum_by-replicate weight n 0 ∙ omega arith);
  used = omega arith;
  within = omega arith;
  fits = omega (arith, length-replicate {A = ℕ} n 0);
}

pub kept_count : (area : List Bool) (counts : List ℕ) (swapped : List Bool) (reserved in_use slot count : ℕ)
    → IsKeptAnonSlots area counts swapped reserved in_use → 0 < get_or counts slot 0 → 0 < count → IsKeptAnonSlots area (set counts slot count) swapped reserved in_use
kept_count area counts swapped reserved in_use slot count kept used some =
    let within : slot < length counts = within_from counts slot used in
    let before : is_used (get_or counts slot 0) ≡ true = used_from (get_or counts slot 0) used in
    let after : is_used count ≡ true = used_from count some in
    let same : get_or (map is_used counts) slot true ≡ is_used count = get_or-map is_used counts slot 0 true within ∙ before ∙ sym after in
    let weights : weight (get_or counts slot 0) ≡ weight count = ap (λ (b : Bool). cond b 1 0) (before ∙ sym after) in
    record {
      marked = kept.marked ∙ sym (map-set is_used counts slot count ∙ ap (λ (b : Bool). set (map is_used counts) slot b) (sym same) ∙ set-get_or (map is_used counts) slot true);
      lengths = kept.lengths ∙ sym (length-set counts slot count);
      counted = omega (arith, kept.counted, sum_by-set weight counts slot count 0 within);
      used = kept.used;
      within = omega (arith, kept.within, length-set counts slot count);
      fits = omega (arith, kept.fits, length-set counts slot count);
    }

pub kept_dropped : (area : List Bool) (counts : List ℕ) (swapped : List Bool) (reserved in_use slot : ℕ) → IsKeptAnonSlots area counts swapped reserved in_use
    → 0 < get_or counts slot 0 → IsKeptAnonSlots (set area slot false) (set counts slot 0) swapped reserved (in_use - 1)
kept_dropped area counts swapped reserved in_use slot kept used =
    let within : slot < length counts = within_from counts slot used in
    let before : weight (get_or counts slot 0) ≡ 1 = ap (λ (b : Bool). cond b 1 0) (used_from (get_or counts slot 0) used) in
    record {
      marked = ap (λ (l : List Bool). set l slot false) kept.marked ∙ sym (map-set is_used counts slot 0);
      lengths = kept.lengths ∙ sym (length-set counts slot 0);
      counted = omega (arith, kept.counted, before, sum_by-set weight counts slot 0 0 within);
      used = omega (arith, kept.used);
      within = omega (arith, kept.within, length-set counts slot 0);
      fits = omega (arith, kept.fits, length-set counts slot 0);
    }

pub kept_made : (area : List Bool) (counts : List ℕ) (swapped : List Bool) (reserved in_use slot count : ℕ) (mark : Bool)
    → IsKeptAnonSlots area counts swapped reserved in_use → slot < length counts → get_or counts slot 0 ≡ 0 → in_use < reserved → 0 < count
    → IsKeptAnonSlots (set area slot true) (set counts slot count) (set swapped slot mark) reserved (in_use + 1)
kept_made area counts swapped reserved in_use slot count mark kept within unused room some =
    let before : weight (get_or counts slot 0) ≡ 0 = ap weight unused in
    let after : weight count ≡ 1 = ap (λ (b : Bool). cond b 1 0) (used_from count some) in
    record {
      marked = ap (λ (l : List Bool). set l slot true) kept.marked
          ∙ ap (λ (b : Bool). set (map is_used counts) slot b) (sym (used_from count some))
          ∙ sym (map-set is_used counts slot count);
      lengths = length-set swapped slot mark ∙ kept.lengths ∙ sym (length-set counts slot count);
      counted = omega (arith, kept.counted, before, after, sum_by-set weight counts slot count 0 within);
      used = omega arith;
      within = omega (arith, kept.within, length-set counts slot count);
      fits = omega (arith, kept.fits, length-set counts slot count);
    }

-- the first slot that isn't marked is the first of count 0
not_marked : (b : Bool) → not (not (not b)) ≡ not b
not_marked b = elim b as (λ v. not (not (not v)) ≡ not v) [ true ↦ refl | false ↦ refl ]

first_or_len : (counts : List ℕ) → position_or_len not (map is_used counts) ≡ position_or_len (λ count. count == 0) counts
first_or_len [] = refl
first_or_len (count ∷ counts) =
    ap (λ (b : Bool). cond b (1 + position_or_len not (map is_used counts)) 0) (not_marked (count == 0))
    ∙ ap (λ (n : ℕ). cond (not (count == 0)) (1 + n) 0) (first_or_len counts)

pub first_unused : (counts : List ℕ) → position not (map is_used counts) ≡ position (λ count. count == 0) counts
first_unused counts =
    ap (λ (n : ℕ). cond (ltb (position_or_len not (map is_used counts)) n) (Some (position_or_len not (map is_used counts))) None) (length-map counts is_used)
    ∙ ap (λ (n : ℕ). cond (ltb n (length counts)) (Some n) None) (first_or_len counts)

pub area_first : (area : List Bool) (counts : List ℕ) → area ≡ map is_used counts → position not area ≡ position (λ count. count == 0) counts
area_first area counts marked = ap (λ (l : List Bool). position not l) marked ∙ first_unused counts

-- where fewer are in use than there are, one isn't
unused_step : (count first more : ℕ) (counts : List ℕ) → weight count + more < suc (length counts) → (more < length counts → first < length counts)
    → cond (not (count == 0)) (1 + first) 0 < suc (length counts)
unused_step count first more counts few rest =
    ⊎_elim
    (λ zero_count. rw zero_count (omega arith))
    (λ used. let counted : weight count ≡ 1 = ap (λ (b : Bool). cond (not b) 1 0) used in
    let later : first < length counts = rest (omega arith) in rw used (omega arith))
    (cases_Bool (count == 0))

pub some_unused : (counts : List ℕ) → count_by is_used counts < length counts → position_or_len (λ count. count == 0) counts < length counts
some_unused [] few = few
some_unused (count ∷ counts) few =
    unused_step count _ (count_by is_used counts) counts (subst (λ (n : ℕ). n < suc (length counts)) (sum_by-cons weight count counts) few) (some_unused counts)

pub has_unused : (counts : List ℕ) → count_by is_used counts < length counts → IsSome (position (λ count. count == 0) counts)
has_unused counts few = ap is_some (cond-true _ _ _ (lt-ltb _ _ (some_unused counts few)))

pub unused_at : (counts : List ℕ) (slot : ℕ) → position (λ count. count == 0) counts ≡ Some slot → (slot < length counts) × (get_or counts slot 0 ≡ 0)
unused_at counts slot first =
    let at = position-Some (λ count. count == 0) counts slot 0 first in
    (at.0, eqb-true (get_or counts slot 0) 0 at.1)

pub used_made : (counts : List ℕ) (slot : ℕ) → slot < length counts → get_or counts slot 0 ≡ 0 → count_by is_used (set counts slot 1) ≡ count_by is_used counts + 1
used_made counts slot within unused =
    let before : weight (get_or counts slot 0) ≡ 0 = ap weight unused in omega (arith, before, sum_by-set weight counts slot 1 0 within)
