-- The ledger: an entry more takes one from what is left to its process.
use Rattle.std.proofs.Common.{◌≡◌, ◌≢◌, ℕ, zero, suc, ◌+◌, ◌-◌, ◌<◌, ◌==◌, Bool, true, false, cond, List, [], ◌∷◌, ◌++◌, length, refl, sym, ap, ◌∙◌, inl, inr, arith, length-append, get_or-set_same, get_or-set_other, length-set}
use Rattle.std.specs.Prelude.{filter, slice_index, slice_set}
use Rattle.std.proofs.lemmas.Bool.{cases_eq}
use Rattle.std.proofs.lemmas.Bool.Decides.{eqb_tells}
use Rattle.std.proofs.lemmas.List.Elements.{filter-append}
use Rattle.std.proofs.lemmas.List.Sums.{sum_by-set}
use Rattle.fault_entry.specs.vm_types.declared.call.Entry.{Entry}
use Rattle.fault_entry.specs.flat_model.Told.{entries_of}
use Rattle.fault_entry.specs.vm_world.State.{room_of}
use Rattle.vm_core.specs.Ledger.{IsSoundLedger}

at-within : (xs : List ℕ) (q : ℕ) → 0 < slice_index xs q → q < length xs
at-within [] q lt = absurd (let z : 0 < 0 = lt in omega (arith, z))
at-within (x ∷ xs) zero lt = omega arith
at-within (x ∷ xs) (suc q) lt = let r = at-within xs q lt in omega (arith, r)

one : (b : Bool) (e : Entry) → length (cond b (e ∷ []) []) ≡ cond b 1 0
one true e = refl
one false e = refl

count-push : (H : List Entry) (e : Entry) (p : ℕ) → length (entries_of (H ++ e ∷ []) p) ≡ length (entries_of H p) + cond (e.process == p) 1 0
count-push H e p =
    ap length (filter-append (λ (x : Entry). x.process == p) H (e ∷ [])) ∙ length-append (entries_of H p) (filter (λ (x : Entry). x.process == p) (e ∷ []))
    ∙ ap (λ (n : ℕ). length (entries_of H p) + n) (one (e.process == p) e)

count-own : (H : List Entry) (e : Entry) (p : ℕ) → e.process ≡ p → length (entries_of (H ++ e ∷ []) p) ≡ length (entries_of H p) + 1
count-own H e p is = count-push H e p ∙ elim (eqb_tells e.process p) [
  | inl same ↦ ap (λ (b : Bool). length (entries_of H p) + cond b 1 0) same.0
  | inr far ↦ absurd (far.1 is)
]

count-other : (H : List Entry) (e : Entry) (p : ℕ) → e.process ≢ p → length (entries_of (H ++ e ∷ []) p) ≡ length (entries_of H p)
count-other H e p ne = count-push H e p ∙ elim (eqb_tells e.process p) [
  | inl same ↦ absurd (ne same.1)
  | inr far ↦ ap (λ (b : Bool). length (entries_of H p) + cond b 1 0) far.0 ∙ (omega arith)
]

-- what is left after an entry
abbrev pub left_after : List ℕ → ℕ → List ℕ
left_after left q = slice_set left q (slice_index left q - 1)

-- ONE ENTRY MORE.
pub pushed : (H : List Entry) (capacity : ℕ) (entries left : List ℕ) (e : Entry) (q : ℕ) → IsSoundLedger H capacity entries left → e.process ≡ suc q → q < length left → 0 < slice_index left q
    → IsSoundLedger (H ++ e ∷ []) capacity entries (left_after left q)
pushed H capacity entries left e q s is lt some = record {
  counted = counted;
  lengths = length-set left q (slice_index left q - 1) ∙ s.lengths;
  room = let more = length-append H (e ∷ []) in let was = s.room in let sums = sum_by-set (λ (n : ℕ). n) left q (slice_index left q - 1) 0 lt in omega (arith, more, was, sums, some);
  few = let more = length-append H (e ∷ []) in let was = s.few in let sums = sum_by-set (λ (n : ℕ). n) left q (slice_index left q - 1) 0 lt in omega (arith, more, was, sums, some);
}
  where
    counted : (p : ℕ) → length (entries_of (H ++ e ∷ []) p) + room_of (left_after left q) p ≡ room_of entries p
    counted zero = let was = s.counted 0 in let none = count-other H e 0 (λ z. absurd (let w : suc q ≡ 0 = sym is ∙ z in omega (arith, w))) in omega (arith, was, none)
    counted (suc r) = elim (cases_eq r q) [
      | inl same ↦
          let was = s.counted (suc r) in
          let more = count-own H e (suc r) (is ∙ ap suc (sym same)) in
          let now : slice_index (left_after left q) r ≡ slice_index left q - 1 = ap (slice_index (left_after left q)) same ∙ get_or-set_same left q (slice_index left q - 1) 0 lt in
          let old : slice_index left r ≡ slice_index left q = ap (slice_index left) same in
          omega (arith, was, more, now, old, some)
      | inr ne ↦
          let was = s.counted (suc r) in
          let more = count-other H e (suc r) (λ z. ne (let w : suc q ≡ suc r = sym is ∙ z in omega (arith, w))) in
          let now : slice_index (left_after left q) r ≡ slice_index left r = get_or-set_other left q r (slice_index left q - 1) 0 ne in
          omega (arith, was, more, now)
    ]

-- there is room for one more
pub has-room : (H : List Entry) (capacity : ℕ) (entries left : List ℕ) (q : ℕ) → IsSoundLedger H capacity entries left → q < length left → 0 < slice_index left q → length H < capacity
has-room H capacity entries left q s lt some =
    let was = s.room in let sums = sum_by-set (λ (n : ℕ). n) left q 0 0 lt in omega (arith, was, sums, some)

-- there is room for the entry of a process that may make one more
pub room-for-one : (H : List Entry) (capacity : ℕ) (entries left : List ℕ) (p : ℕ) → IsSoundLedger H capacity entries left → length (entries_of H p) < room_of entries p → length H < capacity
room-for-one H capacity entries left zero s few = absurd (let none : length (entries_of H 0) < 0 = few in omega (arith, none))
room-for-one H capacity entries left (suc q) s few =
    let was = s.counted (suc q) in
    let some : 0 < slice_index left q = omega (arith, was, few) in
    has-room H capacity entries left q s (at-within left q some) some
