-- The disks of a volume, and what attaching them does. Public clauses cite this.
use Rattle.std.specs.Prelude.{ℕ, ◌≡◌, ◌≢◌, ◌+◌, Bool, false, IsFalse, ◌&&◌, ◌==◌, nat_le, is_some, List, Option, Some, None, IfSome, IsSome, IsSomeAnd, MatchOption, option_map, if◌then◌else◌}
use Rattle.std.specs.Option.{ForSome}
use Rattle.block_device.specs.DiskSeen.{DiskSeen}
use Rattle.block_device.specs.Opening.{IsRackFault}
use Rattle.block_device.specs.RackSeen.{RackSeen, IsAttached, spec_number}
use Rattle.block_device.specs.declared.numbered.NumberedDisk.{NumberedDisk}
use Rattle.block_device.specs.declared.rack.Spec.{Spec}
use Rattle.block_device.specs.declared.unopened.AttachFault.{AttachFault}
use Rattle.block_device.specs.declared.unopened.AttachFault.TheVariants as fault
use Rattle.volume_disks.specs.declared.stops.Unattached.{Unattached}
use Rattle.volume_disks.specs.declared.stops.VolumeStop.{VolumeStop}
use Rattle.volume_disks.specs.declared.stops.VolumeStop.TheVariants as stop
use Rattle.volume_disks.specs.declared.volume_spec.VolumeSpec.{VolumeSpec}
use Rattle.volume_disks.specs.declared.volume_spec.VolumeSpec.TheVariants.{Plain, Joined}

-- The first disk of a volume, which gives it its number.
abbrev pub first_spec : VolumeSpec → Spec
first_spec (Plain spec) = spec
first_spec (Joined first second mirror) = first

-- The second disk of a volume, where there is one.
abbrev pub second_spec : VolumeSpec → Option Spec
second_spec (Plain spec) = None
second_spec (Joined first second mirror) = Some second

-- The volume mirrors its two disks.
abbrev pub is_mirror : VolumeSpec → Bool
is_mirror (Plain spec) = false
is_mirror (Joined first second mirror) = mirror

-- The numbers of a volume's disks differ.
abbrev pub HasTwoNumbers : VolumeSpec → Type 0
HasTwoNumbers v = ForSome (second_spec v) (λ s. spec_number s ≢ spec_number (first_spec v))

-- A disk of so many blocks may have a table of files.
abbrev pub is_volume_size : ℕ → Bool
is_volume_size blocks = nat_le 2 blocks && nat_le blocks 16384

-- Why two disks of these numbers and sizes can't be joined: the first size that is wrong, or the sizes differ.
abbrev pub size_fault : ℕ × ℕ → ℕ × ℕ → Option VolumeStop
size_fault first second =
    if is_volume_size first.1 then
    (if is_volume_size second.1 then (if first.1 == second.1 then None else Some stop.Unequal) else Some (stop.Size second.0))
    else Some (stop.Size first.0)

-- A numbered disk as its number and the number of its blocks.
abbrev pub sized : {D : Type 0} → (D → DiskSeen) → NumberedDisk D → ℕ × ℕ
sized seen d = (d.number, (seen d.disk).size)

-- A disk that was attached for this spec: one disk, which has each block once and has counted no fault.
pub record IsDiskFor {D : Type 0} (seen : D → DiskSeen) (holds : Spec → Option (List (List ℕ))) (s : Spec) (d : NumberedDisk D) : Type 0 where
  pub number : d.number ≡ spec_number s
  pub attached : IsAttached s (holds s) (seen d.disk)
  pub single : (seen d.disk).kind.members ≡ 1
  pub once : IsFalse (seen d.disk).kind.mirror
  pub unfailed : (seen d.disk).faults ≡ 0

-- THE VOLUME WAS ATTACHED: it stands for the disk of its spec, or for those of its two specs, whose sizes are right and equal; and it has the number of the first.
pub record IsVolume {D P : Type 0} (seen : D → DiskSeen) (pairs : D → Option D → Bool → P → Type 0) (holds : Spec → Option (List (List ℕ))) (v : VolumeSpec) (volume : NumberedDisk P) : Type 0 where
  pub first : NumberedDisk D
  pub second : Option (NumberedDisk D)
  pub one : IsDiskFor seen holds (first_spec v) first
  pub two : MatchOption (second_spec v) (second ≡ None) (λ s. (d : NumberedDisk D) × (second ≡ Some d) × IsDiskFor seen holds s d × (size_fault (sized seen first) (sized seen d) ≡ None))
  pub number : volume.number ≡ spec_number (first_spec v)
  pub stands : pairs first.disk (option_map (λ d. d.disk) second) (is_mirror v) volume.disk

-- Why a volume isn't attached where one of its disks isn't.
abbrev pub stop_of : AttachFault → VolumeStop
stop_of (fault.Failed f) = stop.Failed f
stop_of fault.Memory = stop.Memory

-- How many disks these are.
abbrev pub attached_count : {D : Type 0} → Option D → ℕ
attached_count d = if is_some d then 1 else 0

-- How many disks a volume has.
abbrev pub spec_count : VolumeSpec → ℕ
spec_count v = 1 + attached_count (second_spec v)

-- Why a volume wasn't attached, by the disks that were: the rack failed at the next one, both are there and their sizes don't serve, or memory lacked (where there is to be a second, if the first is there; and both sizes serve, if both are).
abbrev pub VolumeCause : {D : Type 0} → (D → DiskSeen) → RackSeen → RackSeen → VolumeSpec → Option (NumberedDisk D) → Option (NumberedDisk D) → VolumeStop → Type 0
VolumeCause seen old new v None (Some second) why = ⊥
VolumeCause seen old new v None None (stop.Failed f) = IsRackFault old new (spec_number (first_spec v)) (fault.Failed f)
VolumeCause seen old new v (Some first) None (stop.Failed f) = IsSomeAnd (second_spec v) (λ s. IsRackFault old new (spec_number s) (fault.Failed f))
VolumeCause seen old new v (Some first) (Some second) (stop.Failed f) = ⊥
VolumeCause seen old new v None None stop.Memory = new.faults ≡ old.faults
VolumeCause seen old new v (Some first) None stop.Memory = (new.faults ≡ old.faults) × IsSome (second_spec v)
VolumeCause seen old new v (Some first) (Some second) stop.Memory = (new.faults ≡ old.faults) × (size_fault (sized seen first) (sized seen second) ≡ None)
VolumeCause seen old new v (Some first) (Some second) why = (new.faults ≡ old.faults) × (size_fault (sized seen first) (sized seen second) ≡ Some why)
VolumeCause seen old new v first second why = ⊥

-- THE VOLUME WASN'T ATTACHED: each disk that was is handed back as the rack gave it, and the cause.
pub record StopsVolume {D : Type 0} (seen : D → DiskSeen) (old new : RackSeen) (v : VolumeSpec) (u : Unattached D) : Type 0 where
  pub one : IfSome u.first (IsDiskFor seen old.holds (first_spec v))
  pub two : MatchOption (second_spec v) (u.second ≡ None) (λ s. IfSome u.second (IsDiskFor seen old.holds s))
  pub cause : VolumeCause seen old new v u.first u.second u.why
