-- What flushing a file does. Public clauses cite this.
use Rattle.std.specs.Prelude.{ℕ, ◌≡◌, Bool, true, List, Option, IfSome, Result, OnOk}

-- Where the call went well, all that was written is flushed, if the file tells that.
abbrev pub FlushedIfOk : {T E : Type 0} → Option Bool → Result T E → Type 0
FlushedIfOk flushed result = OnOk result (IfSome flushed (λ is. is ≡ true))

-- What a flush does: all that was written is flushed, or it fails. No byte of the file changes.
pub record Flushes {E : Type 0} (old new : Option (List ℕ)) (flushed : Option Bool) (result : Result (Unit {0}) E) : Type 0 where
  pub done : FlushedIfOk flushed result
  pub kept : new ≡ old
