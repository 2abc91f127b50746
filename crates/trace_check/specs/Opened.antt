-- Flat memory with all disks, files or top processes of a trace. Inside: no public clause cites this.
use Rattle.std.specs.Prelude.{ℕ, ◌++◌, List, map}
use Rattle.std.specs.FinMap as finite
use Rattle.std.specs.FinSet as set
use Rattle.flat_model.specs.Flat.{File, Flat}

-- Flat memory with these disks, by number, of so many blocks each, and no other.
abbrev pub with_disks : Flat → List (ℕ × ℕ) → Flat
with_disks F disks = record F { disks = finite.from_entries disks }

-- Flat memory with these files behind those that it has.
abbrev pub with_more_files : Flat → List File → Flat
with_more_files F files = record F { files = F.files ++ files }

-- Flat memory in which these processes are alive, each with an empty space, and no other was ever.
abbrev pub with_roots : Flat → List ℕ → Flat
with_roots F roots = record F { spaces = finite.from_entries (map (λ p. (p, finite.empty)) roots); born = set.from_list roots }
