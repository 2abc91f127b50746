-- What contracts see of a fault that a disk meets before the machine runs. Public clauses cite this.
use Rattle.std.specs.Prelude.{ℕ, Option, IfSome}
use Rattle.block_device.specs.Counts.{HasRisen}

-- The number of the disk, and its count of faults before and after the transfer that failed; no counts
-- where the rack failed.
pub record OpenFaultSeen : Type 0 where
  pub disk : ℕ
  pub counts : Option (ℕ × ℕ)

-- The counts, where there are any, rose in one call, or stand at 2^64 - 1.
abbrev pub HasRisenCounts : Option (ℕ × ℕ) → Type 0
HasRisenCounts counts = IfSome counts (λ pair. HasRisen pair.0 pair.1)
