use Rattle.std.proofs.Common.{◌≡◌, ◌<◌, ℕ, None}
use Rattle.std.specs.Prelude.{slice_index_or}
use Rattle.test_acts.proofs.trial.are_idle.Given as goal

abbrev pub invariant-loop-seat : goal.invariant-loop-seat
invariant-loop-seat l = (k : ℕ) → k < l.seat → slice_index_or l.trips k None ≡ None
