-- What is said unless a device failed. Inside: no clause of `run` cites this.
use Rattle.std.specs.Prelude.{ℕ, ◌≡◌, All, IfSome, List, Result, Ok, Err}
use Rattle.block_device.specs.DiskSeen.{DiskSeen, failures_told}
use Rattle.volume_files.specs.declared.stops.OpenStop.{OpenStop}
use Rattle.volume_files.specs.declared.stops.OpenStop.TheVariants as halt

-- This holds, unless the attaching of disks stopped since the rack or a disk failed.
abbrev pub UnlessFailed : {T : Type 0} → Result T OpenStop → Type 0 → Type 0
UnlessFailed (Ok done) P = P
UnlessFailed (Err halt.Memory) P = P
UnlessFailed (Err (halt.Refused r)) P = P
UnlessFailed (Err (halt.Failed f)) P = Unit {0}

-- This holds of a stop, unless the rack failed, which has no counts of faults.
abbrev pub UnlessRack : OpenStop → Type 0 → Type 0
UnlessRack (halt.Failed f) P = IfSome f.counts (λ counts. P)
UnlessRack why P = P

-- This holds, unless the attaching of disks stopped since the rack failed.
abbrev pub UnlessUngiven : {T : Type 0} → Result T OpenStop → Type 0 → Type 0
UnlessUngiven (Ok done) P = P
UnlessUngiven (Err how) P = UnlessRack how P

-- No disk tells a failure of a call.
abbrev pub NoneCounted : List (ℕ × DiskSeen) → Type 0
NoneCounted disks = All (λ (d : ℕ × DiskSeen). failures_told d.1 ≡ 0) disks
