use Rattle.std.specs.Prelude.{ℕ, ◌≡◌, ◌<◌, true}
use Rattle.flat_model.specs.Spaces.{names_zero}
use Rattle.flat_state.proofs.spaces.Spaces.new_number.Given as goal

-- each number so far is named
abbrev pub invariant-loop-number : goal.invariant-loop-number
invariant-loop-number l = (k : ℕ) → k < l.number → names_zero l.self k ≡ true
