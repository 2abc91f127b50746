-- A volume that was made of its disks, or not.
use Rattle.std.specs.Prelude.{◌≡◌, Bool, List, MatchOption, None, Option, Some, option_map, IfErr, IfOk, IsFalse, Ok, Err, Result, ℕ}
use Rattle.std.proofs.Common.{◌∙◌, subst, sym}
use Rattle.block_device.specs.DiskSeen.{DiskSeen}
use Rattle.block_device.specs.RackSeen.{IsAttached, RackSeen, spec_number}
use Rattle.block_device.specs.declared.numbered.NumberedDisk.{NumberedDisk}
use Rattle.block_device.specs.declared.rack.Spec.{Spec}
use Rattle.volume_disks.specs.Volumes.{IsDiskFor, IsVolume, StopsVolume, first_spec, is_mirror, second_spec, size_fault, sized}
use Rattle.volume_disks.specs.declared.stops.Unattached.{Unattached}
use Rattle.volume_disks.specs.declared.stops.VolumeStop.TheVariants.{Memory}
use Rattle.volume_disks.specs.declared.volume_spec.VolumeSpec.{VolumeSpec}
use Rattle.volume_disks.specs.declared.volume_spec.VolumeSpec.TheVariants.{Joined}

module _ {D P E : Type 0} (seen : D → DiskSeen) (pairs : D → Option D → Bool → P → Type 0) (holds : Spec → Option (List (List ℕ))) (v : VolumeSpec) (first : NumberedDisk D) (second : Option (NumberedDisk D)) where
  pub volume_made : IsDiskFor seen holds (first_spec v) first
      → MatchOption (second_spec v) (second ≡ None) (λ s. (d : NumberedDisk D) × (second ≡ Some d) × IsDiskFor seen holds s d × (size_fault (sized seen first) (sized seen d) ≡ None))
      → (r : Result (NumberedDisk P) E) → IfOk r (λ volume. pairs first.disk (option_map (λ (d : NumberedDisk D). d.disk) second) (is_mirror v) volume.disk) → IfOk r (λ volume. volume.number ≡ first.number)
      → IfOk r (IsVolume seen pairs holds v)
  volume_made one two (Ok volume) stands number = record { first = first; second = second; one = one; two = two; number = number ∙ one.number; stands = stands }
  volume_made one two (Err e) stands number = tt

-- A disk that was attached after another.
pub disk_behind : {D : Type 0} (seen : D → DiskSeen) (holds now : Spec → Option (List (List ℕ))) (s : Spec) (d : NumberedDisk D) → now s ≡ holds s → d.number ≡ spec_number s
    → IsAttached s (now s) (seen d.disk) → (seen d.disk).kind.members ≡ 1 → IsFalse (seen d.disk).kind.mirror → (seen d.disk).faults ≡ 0 → IsDiskFor seen holds s d
disk_behind seen holds now s d same number attached one once none = record { number = number; attached = subst (λ h. IsAttached s h (seen d.disk)) same attached; single = one; once = once; unfailed = none }

-- Two disks whose sizes serve, and no memory to join them.
pub unpaired : {D P : Type 0} (seen : D → DiskSeen) (old new : RackSeen) (s t : Spec) (mirror : Bool) (first second : NumberedDisk D) → IsDiskFor seen old.holds s first → IsDiskFor seen old.holds t second
    → new.faults ≡ old.faults → size_fault (sized seen first) (sized seen second) ≡ None
    → (r : Result P (Unattached D)) → IfErr r (λ u. u ≡ record { why = Memory; first = Some first; second = Some second }) → IfErr r (StopsVolume seen old new (Joined s t mirror))
unpaired seen old new s t mirror first second one two same fit (Ok x) is = tt
unpaired seen old new s t mirror first second one two same fit (Err u) is = subst (StopsVolume seen old new (Joined s t mirror)) (sym is) (record { one = one; two = two; cause = (same, fit) })
