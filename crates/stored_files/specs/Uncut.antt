-- What is said unless the sink or a disk failed. Inside: no clause of `run` cites this.
use Rattle.std.specs.Prelude.{ℕ, List, map, Result, Ok, Err}
use Rattle.block_device.specs.DiskSeen.{DiskSeen, failures_told}
use Rattle.stored_files.specs.declared.showing.ShowStop.{ShowStop}
use Rattle.stored_files.specs.declared.showing.ShowStop.TheVariants as show

-- This holds, unless a showing of files stopped since the sink or a disk failed.
abbrev pub UnlessCut : {T F : Type 0} → Result T (ShowStop F) → Type 0 → Type 0
UnlessCut (Ok done) P = P
UnlessCut (Err show.Memory) P = P
UnlessCut (Err show.Sink) P = Unit {0}
UnlessCut (Err (show.Fault f)) P = Unit {0}

-- How many failures each disk tells.
abbrev pub counts_of : List (ℕ × DiskSeen) → List ℕ
counts_of disks = map (λ (d : ℕ × DiskSeen). failures_told d.1) disks
