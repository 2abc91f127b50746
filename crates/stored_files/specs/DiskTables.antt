-- The tables of disks, as they are made and written. Inside: no clause of `run` cites this.
use Rattle.std.specs.Prelude.{ℕ, ◌≡◌, ◌<◌, ◌≤◌, ◌+◌, List, [], length, take, Some, IfSome, slice_get, slice_index_or}
use Rattle.std.specs.FinMap as finite
use Rattle.block_device.specs.Counts.{HasRisen}
use Rattle.block_device.specs.DiskSeen.{DiskSeen}
use Rattle.block_device.specs.Faults.{IsFaultOf}
use Rattle.volume_format.specs.vnode_files.Files.{FilesSeen}
use Rattle.volume_format.specs.vnode_files.declared.vnode.FileInfo.{FileInfo}
use Rattle.volume_format.specs.Table.{TableSeen, all_extents, AreFree}
use Rattle.volume_format.specs.Volume.{IsVolumeTable, IsVolumeFile, IsNewName, AreDisjointExtents}
use Rattle.stored_files.specs.declared.closing.TableStop.{TableStop}
use Rattle.stored_files.specs.declared.closing.TableStop.TheVariants as table
use Rattle.stored_files.specs.Written.{HaveVolumeNames}
use Rattle.stored_files.specs.Closed.{SaysItsTable, table_entries}
use Rattle.stored_files.specs.Uncut.{counts_of}
use Rattle.stored_files.specs.Written.{infos_made}
use Rattle.stored_files.specs.Written.{LieWell, HaveExtents, WriteTables}

-- Files of which each disk's table can be made.
pub record MakeTables (files : FilesSeen) : Type 0 where
  pub lie : LieWell files
  pub names : HaveVolumeNames (infos_made files)
  pub extents : HaveExtents (infos_made files)

-- The table of a disk with those of so many files that lie there.
pub record TableSoFar (files : FilesSeen) (disk file : ℕ) (t : TableSeen) : Type 0 where
  pub number : finite.get files.disks disk ≡ Some t.blocks
  pub entries : t.entries ≡ table_entries disk (take file (infos_made files))
  pub volume : IsVolumeTable t

-- A file that can be added to a table.
pub record IsAddableTo (t : TableSeen) (e : FileInfo) : Type 0 where
  pub free : AreFree e.extents (all_extents t.entries)
  pub files : length t.entries < 64
  pub extents : length (all_extents t.entries) + length e.extents ≤ 252
  pub file : IsVolumeFile t.blocks e
  pub name : IsNewName e.name t.entries
  pub apart : AreDisjointExtents e.extents

-- Why the table of a disk wasn't written: memory lacked, and the disk is as it was; or the transfer failed.
abbrev pub IsOneTableStop : ℕ × DiskSeen → ℕ × DiskSeen → TableStop → Type 0
IsOneTableStop old new table.Memory = new ≡ old
IsOneTableStop old new (table.Fault f) = IsFaultOf old.0 old.1 new.1 f × HasRisen old.1.faults new.1.faults

-- The tables of so many disks were written; the disks behind them are as they were, and none tells a failure more.
pub record TablesSoFar (infos : List FileInfo) (place : ℕ) (old now : List (ℕ × DiskSeen)) : Type 0 where
  pub writes : WriteTables old now
  pub said : (i : ℕ) (d : ℕ × DiskSeen) → i < place → slice_get now i ≡ Some d → SaysItsTable infos d
  pub behind : (i : ℕ) → place ≤ i → slice_get now i ≡ slice_get old i
  pub uncounted : counts_of now ≡ counts_of old
