-- Tables that are written, and files that are read back. Inside: no clause of `run` cites this.
use Rattle.std.specs.Prelude.{ℕ, All, ◌≡◌, ◌≢◌, ◌<◌, ◌≤◌, ◌++◌, List, [], length, map, Some, None, Result, Ok, Err, slice_get, slice_index_or, unwrap_or}
use Rattle.std.specs.FinMap as finite
use Rattle.block_device.specs.Counts.{HasRisen}
use Rattle.block_device.specs.DiskSeen.{DiskSeen}
use Rattle.block_device.specs.StreamSeen.{SinkSeen}
use Rattle.block_device.specs.declared.disk_fault.DiskFault.{DiskFault}
use Rattle.block_device.specs.declared.numbered.NumberedDisk.{NumberedDisk}
use Rattle.volume_format.specs.vnode_files.Files.{FilesSeen}
use Rattle.volume_format.specs.vnode_files.Layout.{LieOnDisks, NoFilesMeet, HaveFewExtents}
use Rattle.volume_format.specs.vnode_files.Vnode.{VnodeSeen, IsSoundVnode}
use Rattle.volume_format.specs.vnode_files.declared.vnode.FileInfo.{FileInfo}
use Rattle.block_device.specs.OpenSeen.{OpenFaultSeen}
use Rattle.volume_format.specs.Volume.{IsVolumeName}
use Rattle.vm_report.specs.vm_script.PlanSeen.{PlanSeen}
use Rattle.stored_files.specs.declared.showing.Heading.{Heading}
use Rattle.stored_files.specs.declared.showing.Heading.TheVariants.{Trace}
use Rattle.stored_files.specs.declared.closing.TableStop.{TableStop}
use Rattle.stored_files.specs.declared.closing.TableStop.TheVariants as table
use Rattle.stored_files.specs.declared.showing.ShowStop.{ShowStop}
use Rattle.stored_files.specs.declared.showing.ShowStop.TheVariants as show
use Rattle.stored_files.specs.Closed.{SaysItsTable, StoresFile, info_at}
use Rattle.stored_files.specs.Uncut.{counts_of}
use Rattle.stored_files.specs.Texts.{Wrote, WroteFront, WrotePart, IsPageUnread, file_sections, sections_before, trace_front}

-- A disk with its number, as it is seen.
abbrev pub numbered_seen : {D : Type 0} → (D → DiskSeen) → NumberedDisk D → ℕ × DiskSeen
numbered_seen seen d = (d.number, seen d.disk)

-- Disks with their numbers, as they are seen.
abbrev pub paired_seen : {D : Type 0} → (D → DiskSeen) → List (ℕ × D) → List (ℕ × DiskSeen)
paired_seen seen disks = map (λ disk. (disk.0, seen disk.1)) disks

-- What a fault of a transfer tells: the disk's number, and its counts of faults before and after.
pub record FaultCounts : Type 0 where
  pub number : ℕ
  pub before : ℕ
  pub after : ℕ

-- What a fault of a disk tells while the machine runs.
abbrev pub disk_fault_counts : DiskFault → FaultCounts
disk_fault_counts f = record { number = f.disk; before = f.before; after = f.after }

-- What a fault of a disk tells before the machine runs: counts of 0 where it has none.
abbrev pub open_fault_counts : OpenFaultSeen → FaultCounts
open_fault_counts f = let both = unwrap_or f.counts (0, 0) in record { number = f.disk; before = both.0; after = both.1 }

-- The records of files.
abbrev pub infos_made : FilesSeen → List FileInfo
infos_made files = map (λ (v : VnodeSeen). v.info) files.files

-- The files lie well: few enough, each sound, on disks that were set, with no block in common and
-- few extents.
pub record LieWell (files : FilesSeen) : Type 0 where
  pub few_files : length files.files ≤ 64
  pub sound : All IsSoundVnode files.files
  pub on_disks : LieOnDisks files
  pub apart : NoFilesMeet files
  pub few : HaveFewExtents files

-- Each file's disk is one of these, and each of these has as many blocks as the files count on.
pub record HaveDisks (files : FilesSeen) (disks : List (ℕ × DiskSeen)) : Type 0 where
  pub there : (k : ℕ) (v : VnodeSeen) → slice_get files.files k ≡ Some v → (i : ℕ) × (d : DiskSeen) × (slice_get disks i ≡ Some (v.info.disk, d))
  pub sizes : (i : ℕ) (d : ℕ × DiskSeen) → slice_get disks i ≡ Some d → finite.get files.disks d.0 ≡ Some d.1.size
  pub numbers : (i j : ℕ) (d e : ℕ × DiskSeen) → slice_get disks i ≡ Some d → slice_get disks j ≡ Some e → d.0 ≡ e.0 → i ≡ j

-- Each of these disks has a block.
abbrev pub HaveFirstBlocks : List (ℕ × DiskSeen) → Type 0
HaveFirstBlocks disks = (i : ℕ) (d : ℕ × DiskSeen) → slice_get disks i ≡ Some d → 0 < d.1.size

-- The names of files are names of volumes, and those of the files of one disk differ.
pub record HaveVolumeNames (infos : List FileInfo) : Type 0 where
  pub names : (k : ℕ) → k < length infos → IsVolumeName (info_at infos k).name
  pub differ : (i k : ℕ) → k < i → i < length infos → (info_at infos k).disk ≡ (info_at infos i).disk → (info_at infos k).name ≢ (info_at infos i).name

-- Each file has an extent.
abbrev pub HaveExtents : List FileInfo → Type 0
HaveExtents infos = (k : ℕ) → k < length infos → 1 ≤ length (info_at infos k).extents

-- A disk has its size and its kind, and its count of faults didn't fall; but for block 0 it has what it had.
pub record KeepsBlocks (old new : DiskSeen) : Type 0 where
  pub size : new.size ≡ old.size
  pub kind : new.kind ≡ old.kind
  pub faults : old.faults ≤ new.faults
  pub untold : old.content ≡ None → new.content ≡ None
  pub told : (blocks : List (List ℕ)) → old.content ≡ Some blocks
      → (now : List (List ℕ)) × (new.content ≡ Some now) × (length now ≡ length blocks) × ((b : ℕ) → b ≢ 0 → slice_index_or now b [] ≡ slice_index_or blocks b [])

-- Disks have their numbers, in their order, and each keeps its blocks but for block 0.
pub record WriteTables (old new : List (ℕ × DiskSeen)) : Type 0 where
  pub count : length new ≡ length old
  pub numbers : map (λ (d : ℕ × DiskSeen). d.0) new ≡ map (λ (d : ℕ × DiskSeen). d.0) old
  pub each : (i : ℕ) (d e : ℕ × DiskSeen) → slice_get old i ≡ Some d → slice_get new i ≡ Some e → KeepsBlocks d.1 e.1

-- A disk that is only read: no block changes.
pub record OnlyReads (old new : DiskSeen) : Type 0 where
  pub content : new.content ≡ old.content
  pub size : new.size ≡ old.size
  pub kind : new.kind ≡ old.kind
  pub faults : old.faults ≤ new.faults

-- Disks that are only read: they keep their numbers and their order, and no block of one changes.
pub record AreOnlyRead (old new : List (ℕ × DiskSeen)) : Type 0 where
  pub count : length new ≡ length old
  pub numbers : map (λ (d : ℕ × DiskSeen). d.0) new ≡ map (λ (d : ℕ × DiskSeen). d.0) old
  pub each : (i : ℕ) (d e : ℕ × DiskSeen) → slice_get old i ≡ Some d → slice_get new i ≡ Some e → OnlyReads d.1 e.1

-- A fault is that of the last transfer of this disk, in which its count rose; it had counted so many faults before it, at least.
pub record HasLastFault (low : ℕ) (disk : ℕ × DiskSeen) (f : FaultCounts) : Type 0 where
  pub number : f.number ≡ disk.0
  pub risen : HasRisen f.before f.after
  pub since : low ≤ f.before
  pub last : f.after ≡ disk.1.faults

-- A fault is that of the last transfer of one of these disks, which counted no fewer faults before
-- it than at the start.
pub record IsCountedSince (old new : List (ℕ × DiskSeen)) (f : FaultCounts) : Type 0 where
  pub i : ℕ
  pub was : ℕ × DiskSeen
  pub is : ℕ × DiskSeen
  pub there : slice_get old i ≡ Some was
  pub now : slice_get new i ≡ Some is
  pub same : is.0 ≡ was.0
  pub fault : HasLastFault was.1.faults is f

-- Bytes for each file, as many as its record says; those that its disk has, where that tells.
pub record AreFilesBytes (infos : List FileInfo) (disks : List (ℕ × DiskSeen)) (bytes : ℕ → List ℕ) : Type 0 where
  pub lengths : (k : ℕ) (info : FileInfo) → slice_get infos k ≡ Some info → length (bytes k) ≡ info.length
  pub told : (i k : ℕ) (disk : ℕ × DiskSeen) (info : FileInfo) → slice_get disks i ≡ Some disk → slice_get infos k ≡ Some info → StoresFile disk info (bytes k)

-- The tables were written up to a place: each disk before it says that of its files, and each behind it is as it was.
pub record WroteTablesTo (infos : List FileInfo) (place : ℕ) (old new : List (ℕ × DiskSeen)) : Type 0 where
  pub before : (i : ℕ) (d : ℕ × DiskSeen) → i < place → slice_get new i ≡ Some d → SaysItsTable infos d
  pub behind : (i : ℕ) → place < i → slice_get new i ≡ slice_get old i

-- The tables were written up to a place, and nothing else: each disk before it says that of its files, and it and each behind it are as they were; and no disk
-- tells a failure more.
pub record WroteTablesAt (infos : List FileInfo) (place : ℕ) (old new : List (ℕ × DiskSeen)) : Type 0 where
  pub before : (i : ℕ) (d : ℕ × DiskSeen) → i < place → slice_get new i ≡ Some d → SaysItsTable infos d
  pub behind : (i : ℕ) → place ≤ i → slice_get new i ≡ slice_get old i
  pub uncounted : counts_of new ≡ counts_of old

-- Why a table wasn't written: memory lacked, and the tables were written up to a place, and nothing else; or the last transfer of a disk failed, and they were
-- written up to that disk's place.
abbrev pub IsTableStop : List FileInfo → List (ℕ × DiskSeen) → List (ℕ × DiskSeen) → TableStop → Type 0
IsTableStop infos old new table.Memory = (place : ℕ) × WroteTablesAt infos place old new
IsTableStop infos old new (table.Fault f) = (c : IsCountedSince old new (disk_fault_counts f)) × WroteTablesTo infos c.i old new

-- Why files weren't shown to their end, and what was written: for want of memory a front, nothing that is no front of the text; where the sink
-- failed, a front that isn't all of it; where a page wasn't read, all up to its place.
abbrev pub IsShowStop : Heading → List FileInfo → (ℕ → List ℕ) → SinkSeen → SinkSeen → List (ℕ × DiskSeen) → List (ℕ × DiskSeen) → {F : Type 0} → (F → FaultCounts) → ShowStop F → Type 0
IsShowStop heading infos bytes k0 k1 old new counts show.Memory = WroteFront k0 k1 (file_sections heading infos bytes)
IsShowStop heading infos bytes k0 k1 old new counts show.Sink = HasRisen k0.faults k1.faults × WrotePart k0 k1 (file_sections heading infos bytes)
IsShowStop heading infos bytes k0 k1 old new counts (show.Fault f) =
    IsCountedSince old new (counts f)
    × ((file : ℕ) × (page : ℕ) × IsPageUnread infos file page (counts f).number × Wrote k0 k1 (sections_before heading infos bytes file page))

-- The files were shown, or a front of the text, as it stopped.
abbrev pub ShowsSections : Heading → List FileInfo → (ℕ → List ℕ) → SinkSeen → SinkSeen → List (ℕ × DiskSeen) → List (ℕ × DiskSeen) → {F : Type 0}
    → (F → FaultCounts) → Result (Unit {0}) (ShowStop F) → Type 0
ShowsSections heading infos bytes k0 k1 old new counts (Ok done) = Wrote k0 k1 (file_sections heading infos bytes)
ShowsSections heading infos bytes k0 k1 old new counts (Err stop) = IsShowStop heading infos bytes k0 k1 old new counts stop

-- A fault of a transfer has the disk's number and its counts before and after.
abbrev pub IsReadFault : {F : Type 0} → (F → FaultCounts) → ℕ × DiskSeen → ℕ × DiskSeen → F → Type 0
IsReadFault counts old new f = counts f ≡ record { number = old.0; before = old.1.faults; after = new.1.faults }

-- The number and the size of each disk.
abbrev pub disk_sizes : List (ℕ × DiskSeen) → List (ℕ × ℕ)
disk_sizes disks = map (λ (d : ℕ × DiskSeen). (d.0, d.1.size)) disks

-- The opening part of a trace was written, or a front of it, as it stopped.
abbrev pub TraceShows : PlanSeen → List FileInfo → (ℕ → List ℕ) → SinkSeen → SinkSeen → List (ℕ × DiskSeen) → List (ℕ × DiskSeen) → Result (Unit {0}) (ShowStop OpenFaultSeen) → Type 0
TraceShows plan infos bytes k0 k1 old new (Ok done) = Wrote k0 k1 (trace_front plan (disk_sizes old) ++ file_sections Trace infos bytes)
TraceShows plan infos bytes k0 k1 old new (Err show.Memory) = WroteFront k0 k1 (trace_front plan (disk_sizes old) ++ file_sections Trace infos bytes)
TraceShows plan infos bytes k0 k1 old new (Err show.Sink) =
    HasRisen k0.faults k1.faults × WrotePart k0 k1 (trace_front plan (disk_sizes old) ++ file_sections Trace infos bytes)
TraceShows plan infos bytes k0 k1 old new (Err (show.Fault f)) =
    IsCountedSince old new (open_fault_counts f)
    × ((file : ℕ) × (page : ℕ) × IsPageUnread infos file page f.disk × Wrote k0 k1 (trace_front plan (disk_sizes old) ++ sections_before Trace infos bytes file page))
