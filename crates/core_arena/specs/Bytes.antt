-- The bytes of frames. Public clauses cite this.
use Rattle.std.specs.Prelude.{ℕ, ◌+◌, ◌++◌, List, [], ◌∷◌, Option, Some, None, slice_index_or, replicate, take, drop, length}
use Rattle.std.specs.Option.{option_map}

-- the bytes of a frame that is home; None where it is away
abbrev pub bytes_at : List (Option (List ℕ)) → ℕ → Option (List ℕ)
bytes_at frames i = slice_index_or frames i None

-- a page of zeros
abbrev pub zeros : List ℕ
zeros = replicate 4096 0

-- the bytes with a piece written over them from a place on
abbrev pub bytes_with_piece : List ℕ → ℕ → List ℕ → List ℕ
bytes_with_piece bytes at from = take at bytes ++ from ++ drop (at + length from) bytes

-- a slice keeps its length: what is left in it are the bytes w, cut or filled up to the length of the old ones
abbrev pub slice_after_write : List ℕ → List ℕ → List ℕ
slice_after_write bytes w = take (length bytes) (w ++ drop (length w) bytes)

-- the bytes of all frames in order; None where one is away
abbrev pub all_bytes : List (Option (List ℕ)) → Option (List ℕ)
all_bytes [] = Some []
all_bytes (None ∷ more) = None
all_bytes (Some bytes ∷ more) = option_map (λ rest. bytes ++ rest) (all_bytes more)
