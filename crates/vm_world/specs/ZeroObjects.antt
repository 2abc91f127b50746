-- The list of zero objects beside the segments. Public clauses cite this.
use Rattle.std.specs.Prelude.{◌≡◌, ℕ, List, Option, None, slice_index_or}
use Rattle.std.specs.FinMap as finite
pub use Rattle.zero_objects.specs.ZeroNumbers.{free_number, AreSameZeros}
use Rattle.vm_world.specs.FlatMemory.{zero_maps}
use Rattle.vm_world.specs.Segments.{Spaces}

-- The list has the map of each zero object that a segment shows, and no other.
abbrev pub KnowsZeros : List (Option ℕ) → Spaces → Type 0
KnowsZeros zeros spaces = (z : ℕ) → finite.get (zero_maps spaces) z ≡ slice_index_or zeros z None
