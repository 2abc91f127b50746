-- Entries of a list that stand one behind another. Inside: no public clause cites this.
use Rattle.std.specs.Prelude.{ℕ, ◌+◌, ◌≤◌, ◌<◌, ◌^◌}

-- So many entries from a place on lie in a list of n, and their places are numbers of a machine.
pub record IsSliceOf (n first count : ℕ) : Type 0 where
  pub within : first + count ≤ n
  pub few : first + count < 2 ^ 64
