-- What calls of streams of bytes do. Public clauses cite this.
use Rattle.std.specs.Prelude.{ℕ, ◌≡◌, ◌<◌, ◌≤◌, List, [], length, take, Option, IfSome, Result, IfOk, OnErr}
use Rattle.block_device.specs.StreamSeen.{Came, text_with_more}

-- What a read of an input does: the next bytes came into the front of `into`, and none only at the end or where there is no
-- room. After an error none was taken.
pub record ReadsBytes {E : Type 0} (old new : Option (List ℕ)) (into : List ℕ) (result : Result ℕ E) : Type 0 where
  pub fits : IfOk result (λ count. count ≤ length into)
  pub came : IfOk result (λ count. Came old (take count into) new)
  pub end : IfOk result (λ count. 0 < length into → count ≡ 0 → IfSome old (λ rest. rest ≡ []))
  pub kept : OnErr result (new ≡ old)

-- What a write to an output does: a front of `from` was written behind what had been. After an error nothing was written.
pub record WritesBytes {E : Type 0} (old new : Option (List ℕ)) (from : List ℕ) (result : Result ℕ E) : Type 0 where
  pub fits : IfOk result (λ count. count ≤ length from)
  pub put : IfOk result (λ count. new ≡ text_with_more old (take count from))
  pub kept : OnErr result (new ≡ old)
