-- What a lock asks of a state, over any types of states, entries and notes. Public clauses cite this.
use Rattle.std.specs.Prelude.{◌≡◌, ℕ, List, ◌++◌, slice_set, Option, All}
use mathlib.Core.Option.{some}
use lib.ListN.{get_elem?}

module _ {S E N : Type 0} (seat_of : E → ℕ) (history : S → List E) (fits : S → S → List (Option N) → Type 0) (moves : ℕ → S → Option N → S → Option N → Type 0) where
  -- Where a state fits and one seat moves, the new state fits the same opening with that seat's new note, whatever the other notes are.
  abbrev pub Keeps : Type 0
  Keeps = (opening s t : S) (notes : List (Option N)) (k : ℕ) (n m : Option N) → fits opening s notes → get_elem? notes k ≡ some n → moves k s n t m → fits opening t (slice_set notes k m)

  -- Where a state fits and one seat moves, the new history is the old one and then entries of that seat alone.
  abbrev pub Grows : Type 0
  Grows = (opening s t : S) (notes : List (Option N)) (k : ℕ) (n m : Option N) → fits opening s notes → get_elem? notes k ≡ some n → moves k s n t m
      → (added : List E) × (history t ≡ history s ++ added) × All (λ e. seat_of e ≡ k) added
