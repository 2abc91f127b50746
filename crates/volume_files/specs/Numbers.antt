-- The numbers of the disks that are attached. Public clauses cite this.
use Rattle.std.specs.Prelude.{ℕ, List, ◌∷◌, option_map}
use Rattle.std.specs.List.{flat_map}
use Rattle.std.specs.Option.{option_to_list}
use Rattle.block_device.specs.RackSeen.{spec_number}
use Rattle.vm_report.specs.vm_script.declared.plan.SetupLine.{SetupLine}
use Rattle.volume_disks.specs.Volumes.{first_spec, second_spec}
use Rattle.volume_disks.specs.declared.volume_spec.VolumeSpec.{VolumeSpec}
use Rattle.volume_files.specs.Opened.{setup_volumes}

-- The numbers of the disk of a volume, or of both its disks.
abbrev pub both_numbers : VolumeSpec → List ℕ
both_numbers v = spec_number (first_spec v) ∷ option_to_list (option_map spec_number (second_spec v))

-- The numbers of the disks that set-up lines give, in the order in which they are attached: the volumes in rising number, and of two disks the second right
-- after the first.
abbrev pub disk_numbers : List SetupLine → List ℕ
disk_numbers setup = flat_map both_numbers (setup_volumes setup)
