-- CALLS that may be a lane's, one behind the other.
use Rattle.std.proofs.Common.{◌≡◌, ℕ, suc, ◌==◌, ◌+◌, ◌<◌, ◌≤◌, false, true, List, length, Option, Some, refl, sym, ap, ◌∙◌, inl, inr, subst, arith}
use Rattle.std.specs.Prelude.{slice_get}
use Rattle.std.proofs.Math.ListN.{get_or}
use Rattle.std.proofs.lemmas.Bool.{cases_eq}
use Rattle.std.proofs.lemmas.Bool.Decides.{eqb_tells}
use Rattle.std.proofs.lemmas.Option.{slice_get_within, slice_get-get_or}
use Rattle.fault_entry.specs.vm_types.declared.call.Call.{Call}
use Rattle.fault_entry.specs.vm_types.declared.call.Call.TheVariants.{Exit}
use Rattle.lane_driver.specs.Lanes.{AreLaneCalls, IsLaneCall}

pub is-last : (n m : ℕ) → (n + 1 == m) ≡ true → suc n ≡ m
is-last n m is = elim (eqb_tells (n + 1) m) [
  | inl y ↦ (let same = y.1 in omega (arith, same))
  | inr x ↦ absurd (let z : true ≡ false = sym is ∙ x.0 in cc)
]

-- and the other way round
pub at-last : (n m : ℕ) → suc n ≡ m → (n + 1 == m) ≡ true
at-last n m is = elim (eqb_tells (n + 1) m) [
  | inl y ↦ y.0
  | inr x ↦ absurd (x.1 (omega (arith, is)))
]

-- the call at a place may be a lane's, and is the last where it is an Exit
abbrev pub IsCallAt : List Call → ℕ → Call → Type 0
IsCallAt calls k call = IsLaneCall call × (call ≡ Exit → suc k ≡ length calls)

abbrev pub AreFirst : List Call → ℕ → Type 0
AreFirst calls n = (k : ℕ) (call : Call) → k < n → slice_get calls k ≡ Some call → IsCallAt calls k call

pub one-more : (calls : List Call) (n : ℕ) (call : Call) → AreFirst calls n → slice_get calls n ≡ Some call → IsCallAt calls n call → AreFirst calls (n + 1)
one-more calls n call first at here = λ k one lt there. elim (cases_eq k n) [
  | inl e ↦
      let same : call ≡ one = (let z : ◌≡◌ {A = Option Call} (Some call) (Some one) = sym at ∙ ap (slice_get calls) (sym e) ∙ there in cc) in
      subst (λ (j : ℕ). IsCallAt calls j one) (sym e) (subst (IsCallAt calls n) same here)
  | inr ne ↦ first k one (omega (arith, lt, ne)) there
]

pub all-calls : (calls : List Call) (n : ℕ) → length calls ≤ n → AreFirst calls n → AreLaneCalls calls
all-calls calls n past first = record {
  each = λ k call at. (first k call (below k call at) at).0;
  last = λ k at. (first k Exit (below k Exit at) at).1 refl;
}
  where
    below : (k : ℕ) (call : Call) → slice_get calls k ≡ Some call → k < n
    below k call at = let lt = slice_get_within calls k call at in omega (arith, lt, past)

-- where a call may not be a lane's at its place, the calls may not
pub not-calls : (calls : List Call) (n : ℕ) (call : Call) → slice_get calls n ≡ Some call → AreLaneCalls calls → IsLaneCall call × (call ≡ Exit → (n + 1 == length calls) ≡ true)
not-calls calls n call at all = (all.each n call at, λ exit. at-last n (length calls) (all.last n (subst (λ (c : Call). slice_get calls n ≡ Some c) exit at)))
