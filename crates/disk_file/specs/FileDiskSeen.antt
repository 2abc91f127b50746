-- What contracts see of a disk over a file. Public clauses cite this.
use Rattle.std.specs.Prelude.{ℕ, List, Option, option_map, Bool, if◌then◌else◌}
use Rattle.block_device.specs.DiskSeen.{DiskSeen, one_disk}
use Rattle.block_device.specs.MemSeen.{one_more}
use Rattle.disk_file.specs.FileBlocks.{blocks_of_file}

-- a disk over a file: the file's bytes where they are told, how many blocks it has, how often a transfer failed, and how
-- often one was asked for
pub record FileDiskSeen : Type 0 where
  pub bytes : Option (List ℕ)
  pub size : ℕ
  pub faults : ℕ
  pub calls : ℕ

-- A disk over a file as a disk: its content is the first blocks of the file, where the file tells.
abbrev pub file_disk_as_disk : FileDiskSeen → DiskSeen
file_disk_as_disk d = record { content = option_map (blocks_of_file d.size) d.bytes; size = d.size; kind = one_disk; faults = d.faults; calls = d.calls }

-- a disk of so many blocks over a file of these bytes, of which no call was made yet
abbrev pub fresh_file_disk : Option (List ℕ) → ℕ → FileDiskSeen
fresh_file_disk bytes blocks = record { bytes = bytes; size = blocks; faults = 0; calls = 0 }

-- A transfer was counted, as failed or not.
abbrev pub after_transfer : FileDiskSeen → Bool → FileDiskSeen
after_transfer d failed = record d {
  faults = if failed then one_more d.faults else d.faults;
  calls = one_more d.calls;
}

-- the disk with other bytes in its file
abbrev pub with_file_bytes : FileDiskSeen → Option (List ℕ) → FileDiskSeen
with_file_bytes d bytes = record d { bytes = bytes }
