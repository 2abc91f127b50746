-- The bytes of a file, and what reading and writing at an offset do. Public clauses cite this.
use Rattle.std.specs.Prelude.{ℕ, ◌≡◌, ◌+◌, ◌<◌, ◌≤◌, List, ◌++◌, length, take, drop, slice_index, Option, option_map, IfSome, Result, IfOk, OnErr}

-- Each of these bytes is a number below 256.
abbrev pub AreOctets : List ℕ → Type 0
AreOctets bytes = (at : ℕ) → slice_index bytes at < 256

-- the bytes with a piece in place of as many at an offset
abbrev pub overlaid : ℕ → List ℕ → List ℕ → List ℕ
overlaid offset piece bytes = take offset bytes ++ piece ++ drop (offset + length piece) bytes

-- At most so many bytes at an offset are others now, where the file tells.
abbrev pub PutsPiece : Option (List ℕ) → Option (List ℕ) → ℕ → ℕ → Type 0
PutsPiece old new offset most = (piece : List ℕ) × (length piece ≤ most) × (new ≡ option_map (overlaid offset piece) old)

-- What a read at an offset does: the front of `into` is the file's bytes from there on, and the file is as it was.
pub record ReadsAt {E : Type 0} (old new : Option (List ℕ)) (offset : ℕ) (into : List ℕ) (result : Result ℕ E) : Type 0 where
  pub fits : IfOk result (λ count. count ≤ length into)
  pub gives : IfOk result (λ count. IfSome old (λ bytes. take count into ≡ take count (drop offset bytes)))
  pub kept : new ≡ old

-- What a write at an offset does: the front of `from` lies there, or after an error some piece that is no longer. No other byte is changed.
pub record WritesAt {E : Type 0} (old new : Option (List ℕ)) (offset : ℕ) (from : List ℕ) (result : Result ℕ E) : Type 0 where
  pub fits : IfOk result (λ count. count ≤ length from)
  pub put : IfOk result (λ count. new ≡ option_map (overlaid offset (take count from)) old)
  pub torn : OnErr result ((piece : List ℕ) × (length piece ≤ length from) × (new ≡ option_map (overlaid offset piece) old))
