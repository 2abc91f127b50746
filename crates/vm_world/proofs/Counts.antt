-- Which places hold a slot, by its count.
use Rattle.std.proofs.Common.{◌≡◌, ◌≢◌, ℕ, zero, suc, ◌+◌, ◌<◌, ◌≤◌, Bool, true, cond, List, [], ◌∷◌, length, Option, Some, None, refl, sym, ap, ◌∙◌, inl, inr, arith, slice_index_or}
use Rattle.std.specs.Prelude.{count_by, slice_index}
use Rattle.std.proofs.lemmas.Bool.{cases_eq, eq-eqb}
use Rattle.std.proofs.lemmas.List.Sums.{sum_by-cons}
use Rattle.anon_map.specs.Maps.{Map, places_of}
use Rattle.anon_slots.specs.Slots.{AnonSlotsSeen, count_at}
use Rattle.vm_world.specs.World.{slot_in}
use Rattle.vm_world.specs.CountsFit.{CountsFit, is_number, places_in, times_held}

held-is : (s : ℕ) → is_number s (Some s) ≡ true
held-is s = eq-eqb s s refl

-- what a place counts
abbrev adds : ℕ → Option ℕ → ℕ
adds s o = cond (is_number s o) 1 0

adds-one : (s : ℕ) (o : Option ℕ) → o ≡ Some s → adds s o ≡ 1
adds-one s o is = ap (adds s) is ∙ ap (λ (b : Bool). cond {A = ℕ} b 1 0) (held-is s)

count-step : (s : ℕ) (o : Option ℕ) (os : List (Option ℕ)) → count_by (is_number s) (o ∷ os) ≡ adds s o + count_by (is_number s) os
count-step s o os = sum_by-cons (adds s) o os

times-step : (s : ℕ) (o : Option Map) (os : List (Option Map)) → times_held (o ∷ os) s ≡ count_by (is_number s) (places_in o) + times_held os s
times-step s o os = sum_by-cons (λ (m : Option Map). count_by (is_number s) (places_in m)) o os

-- a place that holds the slot counts
pub count-one : (s : ℕ) (places : List (Option ℕ)) (i : ℕ) → slice_index_or places i None ≡ Some s → 1 ≤ count_by (is_number s) places
count-one s [] i is = absurd (cc)
count-one s (o ∷ os) zero is =
    let step = count-step s o os in
    let one = adds-one s o is in
    omega (arith, step, one)
count-one s (o ∷ os) (suc i) is = let step = count-step s o os in let more = count-one s os i is in omega (arith, step, more)

-- two places that hold it count twice
pub count-two : (s : ℕ) (places : List (Option ℕ)) (i k : ℕ) → slice_index_or places i None ≡ Some s → slice_index_or places k None ≡ Some s → i ≢ k → 2 ≤ count_by (is_number s) places
count-two s [] i k is there ne = absurd (cc)
count-two s (o ∷ os) zero zero is there ne = absurd (ne refl)
count-two s (o ∷ os) zero (suc k) is there ne =
    let step = count-step s o os in
    let one = adds-one s o is in
    let more = count-one s os k there in
    omega (arith, step, one, more)
count-two s (o ∷ os) (suc i) zero is there ne =
    let step = count-step s o os in
    let one = adds-one s o there in
    let more = count-one s os i is in
    omega (arith, step, one, more)
count-two s (o ∷ os) (suc i) (suc k) is there ne = let step = count-step s o os in let more = count-two s os i k is there (λ e. ne (ap suc e)) in omega (arith, step, more)

places-first : (o : Option Map) (os : List (Option Map)) → places_of (o ∷ os) 0 ≡ places_in o
places-first None os = refl
places-first (Some m) os = refl

-- a slot that some place holds is counted
pub held-once : (s : ℕ) (maps : List (Option Map)) (m i : ℕ) → slot_in maps m i ≡ Some s → 1 ≤ times_held maps s
held-once s [] m i is = absurd (cc)
held-once s (o ∷ os) zero i is = let more = count-one s (places_in o) i (ap (λ (ps : List (Option ℕ)). slice_index_or ps i None) (sym (places-first o os)) ∙ is) in let step = times-step s o os in omega (arith, more, step)
held-once s (o ∷ os) (suc m) i is = let more = held-once s os m i is in let step = times-step s o os in omega (arith, more, step)

pub held-twice : (s : ℕ) (maps : List (Option Map)) (m i n k : ℕ) → slot_in maps m i ≡ Some s → slot_in maps n k ≡ Some s → ((n ≡ m) × (k ≡ i) → ⊥) → 2 ≤ times_held maps s
held-twice s [] m i n k is there apart = absurd (cc)
held-twice s (o ∷ os) zero i zero k is there apart =
    let more = count-two s (places_in o) i k (ap (λ (ps : List (Option ℕ)). slice_index_or ps i None) (sym (places-first o os)) ∙ is) (ap (λ (ps : List (Option ℕ)). slice_index_or ps k None) (sym (places-first o os)) ∙ there) (λ e. apart (refl, sym e)) in
    let step = times-step s o os in
    omega (arith, more, step)
held-twice s (o ∷ os) zero i (suc n) k is there apart =
    let a = count-one s (places_in o) i (ap (λ (ps : List (Option ℕ)). slice_index_or ps i None) (sym (places-first o os)) ∙ is) in
    let b = held-once s os n k there in
    let step = times-step s o os in
    omega (arith, a, b, step)
held-twice s (o ∷ os) (suc m) i zero k is there apart =
    let a = count-one s (places_in o) k (ap (λ (ps : List (Option ℕ)). slice_index_or ps k None) (sym (places-first o os)) ∙ there) in
    let b = held-once s os m i is in
    let step = times-step s o os in
    omega (arith, a, b, step)
held-twice s (o ∷ os) (suc m) i (suc n) k is there apart = let more = held-twice s os m i n k is there (λ e. apart (ap suc e.0, e.1)) in let step = times-step s o os in omega (arith, more, step)

-- A SLOT THAT IS COUNTED ONCE stands at one place, and one that isn't counted at none.
pub only-place : (s : ℕ) (maps : List (Option Map)) (m i n k : ℕ) → times_held maps s ≡ 1 → slot_in maps m i ≡ Some s → slot_in maps n k ≡ Some s → (n ≡ m) × (k ≡ i)
only-place s maps m i n k one is there = elim (cases_eq n m) [
  | inl e ↦ elim (cases_eq k i) [
    | inl d ↦ (e, d)
    | inr ne ↦ absurd (let two = held-twice s maps m i n k is there (λ both. ne both.1) in omega (arith, two, one))
  ]
  | inr ne ↦ absurd (let two = held-twice s maps m i n k is there (λ both. ne both.0) in omega (arith, two, one))
]

pub no-place : (s : ℕ) (maps : List (Option Map)) (m i : ℕ) → times_held maps s ≡ 0 → slot_in maps m i ≡ Some s → ⊥
no-place s maps m i none is = let one = held-once s maps m i is in omega (arith, one, none)

-- A SLOT THAT A PLACE HOLDS IS IN USE.
pub held-used : (anon : AnonSlotsSeen) (maps : List (Option Map)) (m i s : ℕ) → CountsFit anon maps → slot_in maps m i ≡ Some s → 0 < count_at anon s
held-used anon maps m i s fit is = let times = held-once s maps m i is in let e = fit.counts s in omega (arith, e, times)

pub used-below : (counts : List ℕ) (s : ℕ) → 0 < slice_index counts s → s < length counts
used-below [] s lt = absurd (omega (arith, lt))
used-below (c ∷ cs) zero lt = omega arith
used-below (c ∷ cs) (suc s) lt = let more = used-below cs s lt in omega (arith, more)
