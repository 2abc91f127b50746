-- Laws of zero objects: which are named, which stay, and the number of a new one. Public clauses cite this.
use Rattle.std.specs.Prelude.{ℕ, ◌≡◌, ◌<◌, Some, None, IsTrue, IsFalse, if◌then◌else◌}
use Rattle.std.specs.FinMap as map
use Rattle.flat_model.specs.Flat.{Cell, Flat, cell_at, zero_of, is_named, without_unnamed}
use Rattle.flat_model.specs.Mapping.{new_number}

-- Some cell of some process names the zero object.
pub record IsNamed (F : Flat) (z : ℕ) : Type 0 where
  pub process : ℕ
  pub page : ℕ
  pub cell : Cell
  pub stands : cell_at F process page ≡ Some cell
  pub names : zero_of cell ≡ Some z

-- The named zero objects are those that some cell names; they alone stay, as they were; and a new one has the least number that isn't named.
pub record NamedZeros : Type 0 where
  pub from_cell : (F : Flat) (p q z : ℕ) (c : Cell) → cell_at F p q ≡ Some c → zero_of c ≡ Some z → IsTrue (is_named F z)
  pub to_cell : (F : Flat) (z : ℕ) → IsTrue (is_named F z) → IsNamed F z
  pub stays : (F : Flat) (z : ℕ) → map.get (without_unnamed F).zeros z ≡ (if is_named F z then map.get F.zeros z else None)
  pub new : (F : Flat) → IsFalse (is_named F (new_number F))
  pub least : (F : Flat) (z : ℕ) → z < new_number F → IsTrue (is_named F z)
