-- What contracts see of a rack, and what attaching a disk does. Public clauses cite this.
use Rattle.std.specs.Prelude.{ℕ, ◌≡◌, ◌≢◌, ◌≤◌, ◌+◌, List, Option, replicate, IfSome, Result, IfOk, IsErrOf, OnOk, OnErr}
use Rattle.block_device.specs.Counts.{HasRisen}
use Rattle.block_device.specs.DiskSeen.{DiskSeen}
use Rattle.block_device.specs.declared.rack.Spec.{Spec}
use Rattle.block_device.specs.declared.rack.Spec.TheVariants.{Blank, Path}
use Rattle.block_device.specs.declared.rack.RackFault.{RackFault}
use Rattle.block_device.specs.declared.rack.RackFault.TheVariants.{Failed, Memory}

-- The content of the disk of each spec, where the rack tells it, how often attaching failed, and how many disks were attached.
pub record RackSeen : Type 0 where
  pub holds : Spec → Option (List (List ℕ))
  pub faults : ℕ
  pub attached : ℕ

-- the number of the disk that a spec asks for
abbrev pub spec_number : Spec → ℕ
spec_number (Blank number blocks) = number
spec_number (Path number path) = number

-- The disk is the one that the spec asks for: a blank one has so many blocks, all zeros where it tells
-- its content; one by path has the content that the rack holds for the spec.
abbrev pub IsAttached : Spec → Option (List (List ℕ)) → DiskSeen → Type 0
IsAttached (Blank number blocks) holds disk =
    (disk.size ≡ blocks) × IfSome disk.content (λ content. content ≡ replicate blocks (replicate 4096 0))
IsAttached (Path number path) holds disk = disk.content ≡ holds

-- What the rack holds for specs of other numbers is as it was.
abbrev pub KeepsOthers : RackSeen → RackSeen → Spec → Type 0
KeepsOthers old new spec = (other : Spec) → spec_number other ≢ spec_number spec → new.holds other ≡ old.holds other

-- What `attach` does: it gives the disk of the spec, one disk which has counted no fault, and counts it as attached;
-- or fails with a fault counted, or lacks memory and leaves the rack as it was. A disk that is given counts no fault
-- of the rack.
pub record Attaches {D : Type 0} (old new : RackSeen) (spec : Spec) (seen : D → DiskSeen) (result : Result D RackFault) : Type 0 where
  pub attached : IfOk result (λ disk. IsAttached spec (old.holds spec) (seen disk))
  pub single : IfOk result (λ disk. (seen disk).kind.members ≡ 1)
  pub unfailed : IfOk result (λ disk. (seen disk).faults ≡ 0)
  pub counted : OnOk result (new.attached ≡ old.attached + 1)
  pub uncounted : OnErr result (new.attached ≡ old.attached)
  pub others : KeepsOthers old new spec
  pub later : old.faults ≤ new.faults
  pub failed : IsErrOf result Failed → HasRisen old.faults new.faults
  pub memory : IsErrOf result Memory → new ≡ old
  pub steady : OnOk result (new.faults ≡ old.faults)
