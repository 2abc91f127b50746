-- Flat memory as a run begins. Public clauses cite this.
use Rattle.std.specs.Prelude.{ℕ, List, map}
use Rattle.std.specs.Ordering.{nat_cmp}
use Rattle.std.specs.FinMap as finite
use Rattle.std.specs.FinSet as set
use Rattle.flat_model.specs.Flat.{File, Flat}

-- Flat memory as it is opened: these slots, disks and files, no zero objects, and the roots alive with empty spaces.
abbrev pub flat_at_opening : ℕ → finite.FinMap nat_cmp ℕ → List File → List ℕ → Flat
flat_at_opening slots disks files roots = record {
  slots = slots;
  disks = disks;
  files = files;
  zeros = finite.empty;
  spaces = finite.from_entries (map (λ p. (p, finite.empty)) roots);
  born = set.from_list roots;
}
