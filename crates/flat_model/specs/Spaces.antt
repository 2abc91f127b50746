-- The spaces of all processes with one cell changed. Public clauses cite this.
use Rattle.std.specs.Prelude.{ℕ, unwrap_or}
use Rattle.std.specs.Ordering.{nat_cmp}
use Rattle.std.specs.FinMap as map
pub use Rattle.flat_model.specs.Flat.{cell_in, names_zero}
use Rattle.flat_model.specs.Flat.{Cell, Space}

-- The spaces with a cell at a page of a process.
abbrev pub with_cell_in : map.FinMap nat_cmp Space → ℕ → ℕ → Cell → map.FinMap nat_cmp Space
with_cell_in spaces p q c = map.insert spaces p (map.insert (unwrap_or (map.get spaces p) map.empty) q c)
