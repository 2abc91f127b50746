-- A state that keeps no history, and of which any change is allowed. Inside: the crate has no public clause.
use Rattle.std.specs.Prelude.{ℕ, List, [], Option, None}

-- The seat that an entry names: an entry is the number of its seat.
abbrev pub seat_itself : ℕ → ℕ
seat_itself e = e

module _ {S : Type 0} where
  -- The history: none.
  abbrev pub no_entries : S → List ℕ
  no_entries s = []

  -- Every state fits every opening and all notes.
  abbrev pub AnyState : S → S → List (Option ℕ) → Type 0
  AnyState opening s notes = Unit {0}

  -- A seat may make any change.
  abbrev pub AnyChange : ℕ → S → Option ℕ → S → Option ℕ → Type 0
  AnyChange k s n t m = Unit {0}

-- Nothing is ever outside the lock.
abbrev pub no_note : {H : Type 0} → H → Option ℕ
no_note held = None
