-- Where a Sync may have begun.
use Rattle.std.proofs.Common.{◌≡◌, ℕ, zero, suc, ◌+◌, ◌<◌, ◌≤◌, ◌⊎◌, ◌||◌, Bool, true, false, List, [], ◌∷◌, ◌++◌, length, Some, refl, sym, ap, subst, ◌∙◌, inl, inr, arith}
use Rattle.std.specs.Prelude.{◌==◌, ◌↔◌, slice_get, if◌then◌else◌}
use Rattle.std.proofs.lemmas.Bool.{eqb-true, eq-eqb}
use Rattle.std.proofs.lemmas.Option.{slice_get_within}
use Rattle.vm_types.specs.declared.call.Entry.{Entry}
use Rattle.flat_model.specs.History.{IsBirth, IsStart}
use Rattle.flat_model.specs.Births.{is_birth}
use Rattle.flat_model.specs.SyncLaws.{is_in_life, start_from, first_start, SyncStarts}
use Rattle.flat_model.proofs.BirthTests.{is_birth-is}

pub or_cases : (a b : Bool) → (a || b) ≡ true → (a ≡ true) ⊎ (b ≡ true)
or_cases true b is = inl refl
or_cases false b is = inr is

or_of : (a b : Bool) → (a ≡ true) ⊎ (b ≡ true) → (a || b) ≡ true
or_of true b is = refl
or_of false b (inl is) = absurd cc
or_of false b (inr is) = is

-- an entry in a process's life
abbrev InLife : ℕ → Entry → Type 0
InLife p e = (e.process ≡ p) ⊎ IsBirth p e

in_life : (p : ℕ) (e : Entry) → is_in_life p e ≡ true → InLife p e
in_life p e is = elim (or_cases (e.process == p) (is_birth p e) is) [ inl a ↦ inl (eqb-true e.process p a) | inr b ↦ inr ((is_birth-is p e).0 b) ]

life_is : (p : ℕ) (e : Entry) → InLife p e → is_in_life p e ≡ true
life_is p e (inl a) = or_of (e.process == p) (is_birth p e) (inl (eq-eqb e.process p a))
life_is p e (inr b) = or_of (e.process == p) (is_birth p e) (inr ((is_birth-is p e).1 b))

-- each entry of H that is in p's life stands before b, the first of H at position k
abbrev Before : ℕ → ℕ → ℕ → List Entry → Type 0
Before p k b H = (j : ℕ) (d : Entry) → slice_get H j ≡ Some d → InLife p d → k + j < b

choice : (x : Bool) (k b c : ℕ) → (if x then k + 1 else b) ≤ c → (x ≡ true → k < c) × (x ≡ false → b ≤ c)
choice true k b c le = (λ is. omega arith, λ is. absurd cc)
choice false k b c le = (λ is. absurd cc, λ is. le)

chosen : (x : Bool) (k b c : ℕ) → (x ≡ true → k < c) → b ≤ c → (if x then k + 1 else b) ≤ c
chosen true k b c lt le = let l = lt refl in omega arith
chosen false k b c lt le = le

start_grows : (p k b : ℕ) (H : List Entry) → b ≤ k → b ≤ start_from p k b H
start_grows p k b [] le = omega arith
start_grows p k b (e ∷ H) le = elim (is_in_life p e) as (λ x. b ≤ start_from p (k + 1) (if x then k + 1 else b) H) [
  | true ↦ let more = start_grows p (k + 1) (k + 1) H (omega arith) in omega (arith, more)
  | false ↦ start_grows p (k + 1) b H (omega arith)
]

start_above : (p k b : ℕ) (H : List Entry) → b ≤ k → Before p k (start_from p k b H) H
start_above p k b [] le j d at life = absurd cc
start_above p k b (e ∷ H) le zero d at life =
    let same : e ≡ d = cc in
    let is = life_is p e (subst (InLife p) (sym same) life) in
    let grows = start_grows p (k + 1) (k + 1) H (omega arith) in
    rw is (omega (arith, grows))
start_above p k b (e ∷ H) le (suc j) d at life =
    let rest = start_above p (k + 1) (if is_in_life p e then k + 1 else b) H (chosen (is_in_life p e) k b (k + 1) (λ _. omega arith) (omega arith)) j d at life in
    omega (arith, rest)

start_least : (p k b c : ℕ) (H : List Entry) → b ≤ c → Before p k c H → start_from p k b H ≤ c
start_least p k b c [] le before = le
start_least p k b c (e ∷ H) le before =
    start_least p (k + 1) (if is_in_life p e then k + 1 else b) c H
    (chosen (is_in_life p e) k b c (λ is. let at = before zero e refl (in_life p e is) in omega (arith, at)) le)
    (λ j d at life. let lt = before (suc j) d at life in omega (arith, lt))

pub IsStart-between : (H : List Entry) (p b : ℕ) → IsStart H (length H) p b ↔ ((first_start p H ≤ b) × (b ≤ length H))
IsStart-between H p b = (
  λ is. (start_least p 0 0 b H (omega arith) (λ j d at life. let lt = is.1 j d (slice_get_within H j d at) at life in omega (arith, lt)), is.0),
  λ is. (is.1, λ j d lt at life. let before = start_above p 0 0 H (omega arith) j d at life in let low = is.0 in omega (arith, before, low)),
)

start-push : (p k b : ℕ) (H : List Entry) (e : Entry) → start_from p k b (H ++ e ∷ []) ≡ (if is_in_life p e then k + length H + 1 else start_from p k b H)
start-push p k b [] e = let at : k + 1 ≡ k + 0 + 1 = omega arith in ap (λ (n : ℕ). if is_in_life p e then n else b) at
start-push p k b (d ∷ H) e =
    let at : k + 1 + length H + 1 ≡ k + suc (length H) + 1 = omega arith in
    start-push p (k + 1) (if is_in_life p d then k + 1 else b) H e ∙ ap (λ (n : ℕ). if is_in_life p e then n else start_from p (k + 1) (if is_in_life p d then k + 1 else b) H) at

pub first_start-push : (H : List Entry) (e : Entry) (p : ℕ) → first_start p (H ++ e ∷ []) ≡ (if is_in_life p e then length H + 1 else first_start p H)
first_start-push H e p =
    let at : 0 + length H + 1 ≡ length H + 1 = omega arith in
    start-push p 0 0 H e ∙ ap (λ (n : ℕ). if is_in_life p e then n else first_start p H) at

pub sync_starts_law : SyncStarts
sync_starts_law = record { between = IsStart-between; none = λ p. refl; pushed = first_start-push }
