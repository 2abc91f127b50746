-- What a rack of files in memory holds. Tests alone cite this.
use Rattle.std.specs.Prelude.{ℕ, ◌/◌, List, [], length, slice_index_or, Some}
use Rattle.block_device.specs.RackSeen.{RackSeen, spec_number}
use Rattle.disk_file.specs.FileBlocks.{blocks_of_file}

-- What contracts see of a rack of files: the bytes of each file, how often attaching failed, and how many disks it attached.
pub record FileRackSeen : Type 0 where
  pub files : List (List ℕ)
  pub faults : ℕ
  pub attached : ℕ

-- The bytes of the file of this number, and none where there is no such file.
abbrev pub image_of : List (List ℕ) → ℕ → List ℕ
image_of files number = slice_index_or files number []

-- The whole blocks of a file of these bytes.
abbrev pub image_blocks : List ℕ → List (List ℕ)
image_blocks bytes = blocks_of_file (length bytes / 4096) bytes

-- A rack of files as a rack: by any path it holds the blocks of the file of the disk's number.
abbrev pub file_rack_as_rack : FileRackSeen → RackSeen
file_rack_as_rack rack = record { holds = λ spec. Some (image_blocks (image_of rack.files (spec_number spec))); faults = rack.faults; attached = rack.attached }
