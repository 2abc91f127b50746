use Rattle.std.specs.Prelude.{◌≡◌, ◌≤◌, length, drop, []}
use Rattle.std.specs.FinMap as finite
use Rattle.volume_files.specs.Placing.{sizes_by_number}
use Rattle.volume_files.proofs.table_files.files_on.Given as goal

-- the disks from this one on are set
abbrev pub invariant-loop-i : goal.invariant-loop-i
invariant-loop-i g l = record {
  inside : l.i ≤ length l.disks;
  set : l.files ≡ record { disks = finite.from_entries (sizes_by_number g.D.Disk.seen (drop l.i l.disks)); files = [] };
}

abbrev pub decreases-loop-i : goal.decreases-loop-i
decreases-loop-i g l = l.i
