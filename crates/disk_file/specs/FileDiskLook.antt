-- What contracts see of a disk over a file. Public clauses cite this.
use Rattle.std.specs.Prelude.{IfSome}
use Rattle.block_device.specs.DiskSeen.{HasBlocks}
use Rattle.disk_file.specs.FileBytes.{AreOctets}
use Rattle.disk_file.specs.FileBlocks.{file_has_blocks}
use Rattle.disk_file.specs.FileDiskSeen.{FileDiskSeen, file_disk_as_disk}
use Rattle.disk_file.specs.declared.block_file.BlockFile.{Ghosts}
use Rattle.disk_file.specs.declared.file_disk.FileDisk.{FileDisk}

-- a disk over a file as its file's bytes, its size and its counts
abbrev pub file_disk_seen : {F : Type 0} {file : Ghosts F} → FileDisk F file → FileDiskSeen
file_disk_seen {file = file} d = record { bytes = file.bytes d.file; size = d.blocks; faults = d.faults; calls = d.calls }

-- The content of a disk over a file is blocks of 4096 bytes.
pub file_disk_has_blocks : {F : Type 0} {file : Ghosts F} → ((f : F) → IfSome (file.bytes f) AreOctets) → (d : FileDisk F file)
    → HasBlocks (file_disk_as_disk (file_disk_seen d)).content (file_disk_as_disk (file_disk_seen d)).size
file_disk_has_blocks {file = file} law d = file_has_blocks (file.bytes d.file) d.blocks (law d.file) d.within
