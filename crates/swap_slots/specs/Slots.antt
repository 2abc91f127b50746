-- Slots of the swap area, as a list with `true` for each slot in use. Public clauses cite this.
use Rattle.std.specs.Prelude.{ℕ, Bool, false, List, IsTrue, slice_index_or}

-- the slot is one of the area's and is in use
abbrev pub IsInUse : List Bool → ℕ → Type 0
IsInUse slots slot = IsTrue (slice_index_or slots slot false)
