-- Where a Sync may have begun, entry by entry. Public clauses cite this.
use Rattle.std.specs.Prelude.{ℕ, ◌≡◌, ◌≤◌, ◌+◌, ◌==◌, ◌↔◌, ◌++◌, ◌||◌, Bool, List, [], ◌∷◌, length, if◌then◌else◌}
use Rattle.vm_types.specs.declared.call.Entry.{Entry}
use Rattle.flat_model.specs.History.{IsStart}
use Rattle.flat_model.specs.Births.{is_birth}

-- The entry is the process's, or the Fork that made it.
abbrev pub is_in_life : ℕ → Entry → Bool
is_in_life p e = (e.process == p) || is_birth p e

-- The position behind the last of these entries that is in the process's life, the first of them
-- standing at position k; b where there is none.
abbrev pub start_from : ℕ → ℕ → ℕ → List Entry → ℕ
start_from p k b [] = b
start_from p k b (e ∷ H) = start_from p (k + 1) (if is_in_life p e then k + 1 else b) H

-- The first position behind a process's entries and the Fork that made it: 0 where there are none.
abbrev pub first_start : ℕ → List Entry → ℕ
first_start p H = start_from p 0 0 H

-- A Sync that answers behind a history may have begun at each position from the first one behind its process's entries and birth to the history's end. An entry more moves that position behind itself where it is the process's or its birth, and nowhere otherwise.
pub record SyncStarts : Type 0 where
  pub between : (H : List Entry) (p b : ℕ) → IsStart H (length H) p b ↔ ((first_start p H ≤ b) × (b ≤ length H))
  pub none : (p : ℕ) → first_start p [] ≡ 0
  pub pushed : (H : List Entry) (e : Entry) (p : ℕ) → first_start p (H ++ e ∷ []) ≡ (if is_in_life p e then length H + 1 else first_start p H)
