-- What contracts see of sources and sinks of bytes, and what their calls do. Public clauses cite this.
use Rattle.std.specs.Prelude.{ℕ, ◌≡◌, ◌<◌, ◌≤◌, List, [], ◌++◌, length, take, Option, option_map, IfSome, Result, IfOk, OnErr}
use Rattle.block_device.specs.Counts.{CountsFailures}

-- The bytes that are still to come, where the source tells them, and how often a read failed.
pub record SourceSeen : Type 0 where
  pub rest : Option (List ℕ)
  pub faults : ℕ

-- The bytes that were taken, where the sink tells them, and how often a write failed.
pub record SinkSeen : Type 0 where
  pub written : Option (List ℕ)
  pub faults : ℕ

-- What was still to come is these bytes and what is still to come now, where it is told.
abbrev pub Came : Option (List ℕ) → List ℕ → Option (List ℕ) → Type 0
Came before bytes after = before ≡ option_map (λ rest. bytes ++ rest) after

-- the text with more bytes at its end, where it is told
abbrev pub text_with_more : Option (List ℕ) → List ℕ → Option (List ℕ)
text_with_more text more = option_map (λ written. written ++ more) text

-- The next `count` bytes came into the front of `into`; none come only at the end of the input.
pub record Gives (old new : SourceSeen) (into : List ℕ) (count : ℕ) : Type 0 where
  pub fits : count ≤ length into
  pub came : Came old.rest (take count into) new.rest
  pub end : 0 < length into → count ≡ 0 → IfSome old.rest (λ rest. rest ≡ [])

-- What a read of a source does: it gives the next bytes, or fails and takes none. It counts a fault exactly
-- where it fails.
pub record ReadsNext {E : Type 0} (old new : SourceSeen) (into : List ℕ) (result : Result ℕ E) : Type 0 where
  pub bytes : IfOk result (Gives old new into)
  pub kept : OnErr result (new.rest ≡ old.rest)
  pub cause : CountsFailures old.faults new.faults result

-- The first `count` bytes of `from` were appended, and at least one where there is one.
pub record Appends (old new : SinkSeen) (from : List ℕ) (count : ℕ) : Type 0 where
  pub fits : count ≤ length from
  pub some : 0 < length from → 0 < count
  pub text : new.written ≡ text_with_more old.written (take count from)

-- What a write to a sink does: it appends a front of `from`, or fails and takes none. It counts a fault exactly
-- where it fails.
pub record WritesNext {E : Type 0} (old new : SinkSeen) (from : List ℕ) (result : Result ℕ E) : Type 0 where
  pub bytes : IfOk result (Appends old new from)
  pub kept : OnErr result (new.written ≡ old.written)
  pub cause : CountsFailures old.faults new.faults result

-- At most so many bytes were taken from a source, in order.
abbrev pub TookSome : Option (List ℕ) → Option (List ℕ) → ℕ → Type 0
TookSome before after most = (bytes : List ℕ) × (length bytes ≤ most) × Came before bytes after

-- A front of the text was appended, and not all of it.
abbrev pub AppendedPart : Option (List ℕ) → Option (List ℕ) → List ℕ → Type 0
AppendedPart before after text = (count : ℕ) × (count < length text) × (after ≡ text_with_more before (take count text))
