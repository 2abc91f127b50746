-- Counts of faults and of calls, which never fall and stop at the largest number of 64 bits. Public clauses cite this.
use Rattle.std.specs.Prelude.{ℕ, ◌≡◌, ◌+◌, ◌-◌, ◌^◌, ◌≤◌, min, Result, OnOk, OnErr}

-- The count rose, or it stands at 2^64 - 1.
abbrev pub HasRisen : ℕ → ℕ → Type 0
HasRisen before after = min (before + 1) (2 ^ 64 - 1) ≤ after

-- The count of faults did not fall, and after an error it rose in this very call.
pub record HasCause {T E : Type 0} (before after : ℕ) (result : Result T E) : Type 0 where
  pub later : before ≤ after
  pub failed : OnErr result (HasRisen before after)

-- The same of a device that counts failures alone: where the call went well, the count is as it was.
pub record CountsFailures {T E : Type 0} (before after : ℕ) (result : Result T E) : Type 0 where
  pub later : before ≤ after
  pub failed : OnErr result (HasRisen before after)
  pub steady : OnOk result (after ≡ before)
