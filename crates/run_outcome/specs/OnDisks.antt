-- What the disks hold once a run ended that began, whatever its status. Public clauses cite this.
use Rattle.std.specs.Prelude.{ℕ, ◌≡◌, List, Option, Some, IfSome, IsSomeAnd, slice_get}
use Rattle.volume_files.specs.vm_types.declared.call.Entry.{Entry}
use Rattle.volume_files.specs.block_device.DiskSeen.{DiskSeen}
use Rattle.volume_files.specs.block_device.declared.rack.Spec.{Spec}
use Rattle.volume_files.specs.volume_disks.declared.volume_spec.VolumeSpec.{VolumeSpec}
use Rattle.volume_files.specs.vm_script.PlanSeen.{PlanSeen}
use Rattle.volume_files.specs.Opened.{IsVolumeAttached, volume_number, volume_specs}
use Rattle.volume_files.specs.flat_model.Flat.{Flat}
use Rattle.vm_core.specs.vm_world.mark_laws.HeldBlocks.{HoldsHistory}

-- EACH DISK THAT CAME BACK and tells HOLDS THE HISTORY, from what it had as the rack gave it.
abbrev pub HoldHistory : PlanSeen → (Spec → Option (List (List ℕ))) → Flat → List Entry → List DiskSeen → Type 0
HoldHistory plan holds F H disks =
    (i : ℕ) (s : VolumeSpec) (d : DiskSeen) → slice_get (volume_specs plan) i ≡ Some s → slice_get disks i ≡ Some d
    → (was : DiskSeen) × IsVolumeAttached holds s was
    × IfSome d.content (λ now. IsSomeAnd was.content (λ given. HoldsHistory F H (volume_number s) d.faults given now))
