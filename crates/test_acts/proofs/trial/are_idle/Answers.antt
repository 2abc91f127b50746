use Rattle.std.proofs.Common.{◌≡◌, ◌<◌, ◌+◌, ◌∙◌, ℕ, List, Option, None, ap, inl, inr, arith}
use Rattle.std.specs.Prelude.{slice_index_or}
use Rattle.std.proofs.lemmas.Bool.{cases_eq}
use Rattle.test_acts.specs.Trials.{TripSeen}
use Rattle.test_acts.proofs.TrialLemmas.{none-out}
use Rattle.test_acts.proofs.trial.are_idle.Goals as goal

one-more : (trips : List (Option TripSeen)) (n : ℕ) → ((k : ℕ) → k < n → slice_index_or trips k None ≡ None) → slice_index_or trips n None ≡ None → (k : ℕ) → k < n + 1 → slice_index_or trips k None ≡ None
one-more trips n each here k lt = elim (cases_eq k n) [
  | inl e ↦ ap (λ (j : ℕ). slice_index_or trips j None) e ∙ here
  | inr ne ↦ each k (omega (arith, lt, ne))
]

pub loop-seat-preserved : goal.loop-seat-preserved
loop-seat-preserved c = one-more c.args.trips.now c.loop-seat.seat c.loop-seat.invariant (c.is_idle_at.ensures c.if-not-is_idle_at.false)

pub returns : goal.returns
returns c is =
    none-out c.args.trips.now
    (λ k lt. c.loop-seat.invariant k (let a = c.loop-seat-test.false in let b = c.loop-seat.auto.seat-end in let below = lt in omega (arith, a, b, below)))
