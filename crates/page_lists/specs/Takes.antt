-- Taking a frame off the lists. Public clauses cite this.
use Rattle.std.specs.Prelude.{◌≡◌, ℕ, Bool, true, false, [], ◌∷◌, Option, Some, None}
use Rattle.page_lists.specs.ListsSeen.{ListsSeen}
use Rattle.page_lists.specs.declared.Taken.{Taken}

-- the first free frame, or with no free frame the first cached one
abbrev pub TakesFrom : Bool → ListsSeen → ListsSeen → ℕ → Type 0
TakesFrom false old new frame = (old.free ≡ frame ∷ new.free) × (new.cached ≡ old.cached)
TakesFrom true old new frame = (old.free ≡ []) × (new.free ≡ []) × (old.cached ≡ frame ∷ new.cached)

-- what a take answers, and what it leaves on the lists
abbrev pub TakesFirst : ListsSeen → ListsSeen → Option Taken → Type 0
TakesFirst old new None = (old.free ≡ []) × (old.cached ≡ []) × (new ≡ old)
TakesFirst old new (Some taken) = TakesFrom taken.cached old new taken.frame
