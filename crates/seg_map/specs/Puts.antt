-- Bytes that are put into a page of a file. Public clauses cite this.
use Rattle.std.specs.Prelude.{ℕ, List}
use Rattle.seg_ops.specs.flat_model.Access.{with_change_at}
use Rattle.seg_ops.specs.flat_model.Flat.{File}
use Rattle.seg_ops.specs.flat_model.Words.{with_bytes}

-- A file with these bytes in a page, from a place on.
abbrev pub with_bytes_in : ℕ → ℕ → List ℕ → File → File
with_bytes_in i at bytes file = record file { pages = with_change_at (λ old. with_bytes old at bytes) file.pages i }
