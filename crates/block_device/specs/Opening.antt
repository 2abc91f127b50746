-- What the calls of an unopened disk do. Public clauses cite this.
use Rattle.std.specs.Prelude.{ℕ, ◌≡◌, ◌≤◌, ◌+◌, Some, None, Result, IfOk, IfErr, OnOk, OnErr}
use Rattle.block_device.specs.Counts.{HasRisen}
use Rattle.block_device.specs.DiskSeen.{DiskSeen}
use Rattle.block_device.specs.OpenSeen.{OpenFaultSeen}
use Rattle.block_device.specs.RackSeen.{RackSeen, IsAttached, KeepsOthers, spec_number}
use Rattle.block_device.specs.declared.numbered.NumberedDisk.{NumberedDisk}
use Rattle.block_device.specs.declared.rack.Spec.{Spec}
use Rattle.block_device.specs.declared.unopened.AttachFault.{AttachFault}
use Rattle.block_device.specs.declared.unopened.AttachFault.TheVariants.{Failed, Memory}

-- A fault of the rack names the disk that was wanted, has no counts, and was counted by the rack in this
-- call. Want of memory leaves the rack as it was.
abbrev pub IsRackFault : RackSeen → RackSeen → ℕ → AttachFault → Type 0
IsRackFault old new number (Failed fault) =
    (fault.disk ≡ number) × (fault.counts ≡ None) × HasRisen old.faults new.faults
IsRackFault old new number Memory = new ≡ old

-- What `attach` does: it gives the disk of the spec under the spec's number, which has counted no fault, and
-- the rack counts it as attached and no fault; or a fault of the rack, or lacks memory.
pub record Opens {D : Type 0} (old new : RackSeen) (spec : Spec) (seen : D → DiskSeen) (result : Result (NumberedDisk D) AttachFault) : Type 0 where
  pub attached : IfOk result (λ given. (given.number ≡ spec_number spec) × IsAttached spec (old.holds spec) (seen given.disk))
  pub single : IfOk result (λ given. (seen given.disk).kind.members ≡ 1)
  pub unfailed : IfOk result (λ given. (seen given.disk).faults ≡ 0)
  pub counted : OnOk result (new.attached ≡ old.attached + 1)
  pub uncounted : OnErr result (new.attached ≡ old.attached)
  pub others : KeepsOthers old new spec
  pub later : old.faults ≤ new.faults
  pub failed : IfErr result (IsRackFault old new (spec_number spec))
  pub steady : OnOk result (new.faults ≡ old.faults)

-- A fault of the disk names it, and has its counts before and after this very call.
abbrev pub IsDiskFault : ℕ → DiskSeen → DiskSeen → OpenFaultSeen → Type 0
IsDiskFault number old new fault = (fault.disk ≡ number) × (fault.counts ≡ Some (old.faults, new.faults))
