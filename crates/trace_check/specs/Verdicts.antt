-- What a verdict of a history means. Public clauses cite this.
use Rattle.std.specs.Prelude.{ℕ, ◌≡◌, ◌<◌, ◌+◌, List, length, take}
use Rattle.flat_model.specs.vm_types.declared.call.Entry.{Entry}
use Rattle.flat_model.specs.Flat.{Flat}
use Rattle.flat_model.specs.History.{Legal}
use Rattle.trace_check.specs.declared.verdict.Verdict.{Verdict}
use Rattle.trace_check.specs.declared.verdict.Verdict.TheVariants as verdict

-- This is the first entry with which the history isn't legal.
pub record IsFirstIllegal (F : Flat) (H : List Entry) (k : ℕ) : Type 0 where
  pub inside : k < length H
  pub illegal : ¬ Legal F (take (k + 1) H)
  pub first : (j : ℕ) → j < k → Legal F (take (j + 1) H)

-- The whole history is legal, and has so many entries; or the entry at this position is the first with which it isn't.
abbrev pub IsVerdict : Flat → List Entry → Verdict → Type 0
IsVerdict F H (verdict.Legal n) = Legal F H × (n ≡ length H)
IsVerdict F H (verdict.First k) = IsFirstIllegal F H k
