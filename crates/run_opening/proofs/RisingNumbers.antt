-- The volumes of a plan stand in rising number.
use Rattle.std.proofs.Common.{◌≡◌, ℕ, zero, suc, ◌<◌, ◌≤◌, ◌+◌, List, [], ◌∷◌, map, Option, Some, None, refl, sym, ap, ◌∙◌, inl, inr, subst, arith}
use Rattle.std.specs.Prelude.{filter_map, slice_get}
use Rattle.std.specs.List.{AllByRecursion, cons_option, range_with_len}
use Rattle.std.proofs.lemmas.Bool.{cases_eq, cases_lt}
use Rattle.std.proofs.lemmas.Option.{none-some, same_Some}
use Rattle.volume_files.specs.vm_script.PlanSeen.{PlanSeen}
use Rattle.volume_files.specs.vm_script.declared.plan.SetupLine.{SetupLine}
use Rattle.volume_files.specs.volume_disks.declared.volume_spec.VolumeSpec.{VolumeSpec}
use Rattle.volume_files.specs.Handed.{volume_numbers}
use Rattle.volume_files.specs.Opened.{volume_number, volume_numbered}
use Rattle.volume_files.proofs.MountSpecs.{volume_is}

-- Each number is below all behind it.
abbrev Rise : List ℕ → Type 0
Rise [] = Unit {0}
Rise (n ∷ ns) = AllByRecursion (λ (m : ℕ). n < m) ns × Rise ns

all-low : (a : ℕ) (ns : List ℕ) → AllByRecursion (λ (m : ℕ). a + 1 ≤ m) ns → AllByRecursion (λ (m : ℕ). a ≤ m) ns
all-low a [] all = tt
all-low a (n ∷ ns) all = let low = all.0 in (omega (arith, low), all-low a ns all.1)

all-past : (a : ℕ) (ns : List ℕ) → AllByRecursion (λ (m : ℕ). a + 1 ≤ m) ns → AllByRecursion (λ (m : ℕ). a < m) ns
all-past a [] all = tt
all-past a (n ∷ ns) all = let low = all.0 in (omega (arith, low), all-past a ns all.1)

rise-from : (setup : List SetupLine) (a k : ℕ) → AllByRecursion (λ (m : ℕ). a ≤ m) (map volume_number (filter_map (volume_numbered setup) (range_with_len a k)))
    × Rise (map volume_number (filter_map (volume_numbered setup) (range_with_len a k)))
rise-from setup a zero = (tt, tt)
rise-from setup a (suc k) =
    let rest = rise-from setup (a + 1) k in
    let others = map volume_number (filter_map (volume_numbered setup) (range_with_len (a + 1) k)) in
    elim (volume_numbered setup a) as (λ (o : Option VolumeSpec). volume_numbered setup a ≡ o
    → AllByRecursion (λ (m : ℕ). a ≤ m) (map volume_number (cons_option o (filter_map (volume_numbered setup) (range_with_len (a + 1) k))))
    × Rise (map volume_number (cons_option o (filter_map (volume_numbered setup) (range_with_len (a + 1) k))))) [
      | None ↦ λ none. (all-low a others rest.0, rest.1)
      | Some s ↦ λ some.
          let number : volume_number s ≡ a = volume_is setup a s some in
          ((omega (arith, number), all-low a others rest.0), (subst (λ (n : ℕ). AllByRecursion (λ (m : ℕ). n < m) others) (sym number) (all-past a others rest.0), rest.1))
    ] refl

past-at : (n : ℕ) (ns : List ℕ) (j y : ℕ) → AllByRecursion (λ (m : ℕ). n < m) ns → slice_get ns j ≡ Some y → n < y
past-at n [] j y all at = absurd (none-some y at)
past-at n (m ∷ ns) zero y all at = subst (λ (x : ℕ). n < x) (same_Some m y at) all.0
past-at n (m ∷ ns) (suc j) y all at = past-at n ns j y all.1 at

rise-at : (ns : List ℕ) (i j x y : ℕ) → Rise ns → slice_get ns i ≡ Some x → slice_get ns j ≡ Some y → i < j → x < y
rise-at [] i j x y rise at there lt = absurd (none-some x at)
rise-at (n ∷ ns) i zero x y rise at there lt = absurd (omega (arith, lt))
rise-at (n ∷ ns) zero (suc j) x y rise at there lt = subst (λ (k : ℕ). k < y) (same_Some n x at) (past-at n ns j y rise.0 there)
rise-at (n ∷ ns) (suc i) (suc j) x y rise at there lt = rise-at ns i j x y rise.1 at there (omega (arith, lt))

-- A LOWER NUMBER stands before.
pub lower-before : (plan : PlanSeen) (i j x y : ℕ) → slice_get (volume_numbers plan) i ≡ Some x → slice_get (volume_numbers plan) j ≡ Some y → x < y → i < j
lower-before plan i j x y at there lt = elim (cases_lt i j) [
  | inl before ↦ before
  | inr not ↦ elim (cases_eq i j) [
    | inl same ↦ absurd (let e : x ≡ y = same_Some x y (sym at ∙ ap (slice_get (volume_numbers plan)) same ∙ there) in omega (arith, lt, e))
    | inr differ ↦ absurd (let more = rise-at (volume_numbers plan) j i y x (rise-from plan.setup 0 8).1 there at (omega (arith, not, differ)) in omega (arith, lt, more))
  ]
]

-- ONE NUMBER stands at one place.
pub same-place : (plan : PlanSeen) (i j x y : ℕ) → slice_get (volume_numbers plan) i ≡ Some x → slice_get (volume_numbers plan) j ≡ Some y → x ≡ y → i ≡ j
same-place plan i j x y at there same = elim (cases_eq i j) [
  | inl is ↦ is
  | inr differ ↦ elim (cases_lt i j) [
    | inl before ↦ absurd (let lt = rise-at (volume_numbers plan) i j x y (rise-from plan.setup 0 8).1 at there before in omega (arith, lt, same))
    | inr not ↦ absurd (let lt = rise-at (volume_numbers plan) j i y x (rise-from plan.setup 0 8).1 there at (omega (arith, not, differ)) in omega (arith, lt, same))
  ]
]
