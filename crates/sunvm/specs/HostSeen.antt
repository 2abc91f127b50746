-- What contracts see of the program's rack and its disks. Inside: no clause of `run` cites this.
use Rattle.std.specs.Prelude.{ℕ}
use Rattle.disk_file.specs.block_device.DiskSeen.{DiskSeen, HasBlocks}
use Rattle.disk_file.specs.FileDiskLook.{file_disk_seen}
use Rattle.disk_file.specs.FileDiskSeen.{file_disk_as_disk}
use Rattle.sunvm.specs.BlankDisks.{blank_disk_seen, blank_disk_has_blocks}
use Rattle.sunvm.specs.declared.host_disk.HostDisk.{HostDisk}
use Rattle.sunvm.specs.declared.host_disk.HostDisk.TheVariants.{Blank, Path}

-- What a contract sees of the program's rack: how often attaching failed, and how many disks it
-- attached.
pub record HostRackSeen : Type 0 where
  pub faults : ℕ
  pub attached : ℕ

-- What a contract sees of the program's disk: one in memory tells its content, one over a file
-- doesn't.
abbrev pub host_disk_seen : HostDisk → DiskSeen
host_disk_seen (Blank disk) = blank_disk_seen disk.value
host_disk_seen (Path disk) = file_disk_as_disk (file_disk_seen disk)

-- A disk of the program that tells its content has as many blocks of 4096 bytes as its size.
pub host_disk_has_blocks : (d : HostDisk) → HasBlocks (host_disk_seen d).content (host_disk_seen d).size
host_disk_has_blocks (Blank disk) = blank_disk_has_blocks disk.value
host_disk_has_blocks (Path disk) = tt
