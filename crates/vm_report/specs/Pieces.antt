-- A text that is made piece by piece. Public clauses cite this.
use Rattle.std.specs.Prelude.{ℕ, List}

-- What is still to come of it, and how many pieces that is at most.
pub record TextLeft : Type 0 where
  pub text : List ℕ
  pub pieces : ℕ
