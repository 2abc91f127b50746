-- A transfer that failed, as its disk counted it. Public clauses cite this.
use Rattle.std.specs.Prelude.{ℕ, ◌≡◌, ◌≤◌}
use Rattle.block_device.specs.DiskSeen.{DiskSeen}
use Rattle.block_device.specs.declared.disk_fault.DiskFault.{DiskFault}

-- The fault is that of the transfer which took the disk of this number from `old` to `new`.
pub record IsFaultOf (number : ℕ) (old new : DiskSeen) (fault : DiskFault) : Type 0 where
  pub disk : fault.disk ≡ number
  pub before : fault.before ≡ old.faults
  pub after : fault.after ≡ new.faults

-- The fault is that of a transfer of the disk of this number, the last one up to `now`, and the disk had
-- counted at least `low` faults before it.
pub record IsFaultSince (number low : ℕ) (now : DiskSeen) (fault : DiskFault) : Type 0 where
  pub disk : fault.disk ≡ number
  pub since : low ≤ fault.before
  pub after : fault.after ≡ now.faults
