-- Files as they are shown, one by one and page by page. Inside: no clause of `run` cites this.
use Rattle.std.specs.Prelude.{ℕ, ◌≡◌, ◌<◌, ◌≤◌, ◌-◌, ◌*◌, List, length, take, drop, min, slice_get, Some, IfSome, Result, Ok, Err}
use Rattle.std.specs.FinMap as finite
use Rattle.block_device.specs.Counts.{HasRisen}
use Rattle.block_device.specs.DiskSeen.{DiskSeen}
use Rattle.block_device.specs.StreamSeen.{SinkSeen}
use Rattle.vm_report.specs.flat_model.Words.{pages_in}
use Rattle.volume_format.specs.vnode_files.Files.{FilesSeen, vnode_at}
use Rattle.volume_format.specs.vnode_files.declared.vnode.FileInfo.{FileInfo}
use Rattle.vm_report.specs.Report.{file_lines}
use Rattle.stored_files.specs.declared.showing.Heading.{Heading}
use Rattle.stored_files.specs.declared.showing.ShowStop.{ShowStop}
use Rattle.stored_files.specs.declared.showing.ShowStop.TheVariants as show
use Rattle.stored_files.specs.Closed.{stored_bytes}
use Rattle.stored_files.specs.Closed.{StoresFile}
use Rattle.stored_files.specs.Texts.{Wrote, WroteFront, WrotePart, file_section, file_sections}
use Rattle.stored_files.specs.Written.{FaultCounts, LieWell, OnlyReads, IsReadFault, IsCountedSince, HasLastFault, AreFilesBytes, AreOnlyRead}

-- A file that lies well on this disk.
pub record LiesOn (files : FilesSeen) (file : ℕ) (disk : ℕ × DiskSeen) : Type 0 where
  pub lie : LieWell files
  pub there : file < length files.files
  pub number : disk.0 ≡ (vnode_at files file).info.disk
  pub size : finite.get files.disks (vnode_at files file).info.disk ≡ Some disk.1.size

-- The record of a file.
abbrev pub shown_info : FilesSeen → ℕ → FileInfo
shown_info files file = (vnode_at files file).info

-- The bytes of a page.
abbrev pub page_piece : List ℕ → ℕ → List ℕ
page_piece bytes page = take 4096 (drop (4096 * page) bytes)

-- The bytes of a file, as many as its record says; those that its disk has, where it tells.
pub record AreFileBytes (disk : DiskSeen) (info : FileInfo) (bytes : List ℕ) : Type 0 where
  pub count : length bytes ≡ info.length
  pub told : IfSome disk.content (λ blocks. stored_bytes blocks info ≡ bytes)

-- The bytes of a page of a file, those below its length.
pub record ArePageBytes (disk : DiskSeen) (info : FileInfo) (page : ℕ) (piece : List ℕ) : Type 0 where
  pub count : length piece ≡ min 4096 (info.length - 4096 * page)
  pub told : IfSome disk.content (λ blocks. page_piece (stored_bytes blocks info) page ≡ piece)

-- A disk was read: no block changes, and it has its number.
pub record LooksAt (old new : ℕ × DiskSeen) : Type 0 where
  pub number : new.0 ≡ old.0
  pub reads : OnlyReads old.1 new.1

-- A fault has the number of the disk, and its counts, which rose in this transfer.
abbrev pub IsUnread : {F : Type 0} → (F → FaultCounts) → ℕ × DiskSeen → ℕ × DiskSeen → F → Type 0
IsUnread counts d0 d1 f = IsReadFault counts d0 d1 f × HasRisen d0.1.faults d1.1.faults

-- The lines of a page were written, or why not.
abbrev pub IsPageShown : FileInfo → ℕ → SinkSeen → SinkSeen → ℕ × DiskSeen → ℕ × DiskSeen → {F : Type 0} → (F → FaultCounts) → Result (Unit {0}) (ShowStop F) → Type 0
IsPageShown info page k0 k1 d0 d1 counts (Ok done) = (piece : List ℕ) × ArePageBytes d0.1 info page piece × Wrote k0 k1 (file_lines (4096 * page) piece)
IsPageShown info page k0 k1 d0 d1 counts (Err show.Memory) = k1 ≡ k0
IsPageShown info page k0 k1 d0 d1 counts (Err show.Sink) =
    (piece : List ℕ) × ArePageBytes d0.1 info page piece × HasRisen k0.faults k1.faults × WrotePart k0 k1 (file_lines (4096 * page) piece)
IsPageShown info page k0 k1 d0 d1 counts (Err (show.Fault f)) = (k1 ≡ k0) × IsUnread counts d0 d1 f

-- Lines were written, or why not: `front page` is the text up to the place of a page.
abbrev pub AreLinesShown : List ℕ → (ℕ → List ℕ) → ℕ → SinkSeen → SinkSeen → (FaultCounts → Type 0) → {F : Type 0} → (F → FaultCounts) → Result (Unit {0}) (ShowStop F) → Type 0
AreLinesShown text front pages k0 k1 is_fault counts (Ok done) = Wrote k0 k1 text
AreLinesShown text front pages k0 k1 is_fault counts (Err show.Memory) = WroteFront k0 k1 text
AreLinesShown text front pages k0 k1 is_fault counts (Err show.Sink) = HasRisen k0.faults k1.faults × WrotePart k0 k1 text
AreLinesShown text front pages k0 k1 is_fault counts (Err (show.Fault f)) = is_fault (counts f) × ((page : ℕ) × (page < pages) × Wrote k0 k1 (front page))

-- The lines of a file up to the place of a page.
abbrev pub lines_before : List ℕ → ℕ → List ℕ
lines_before bytes page = file_lines 0 (take (4096 * page) bytes)

-- The lines of these bytes were written, or why not.
abbrev pub LinesShow : List ℕ → SinkSeen → SinkSeen → (FaultCounts → Type 0) → {F : Type 0} → (F → FaultCounts) → Result (Unit {0}) (ShowStop F) → Type 0
LinesShow bytes k0 k1 is_fault counts result = AreLinesShown (file_lines 0 bytes) (lines_before bytes) (pages_in (length bytes)) k0 k1 is_fault counts result

-- The lines of a file were shown, whose bytes are these.
pub record LinesShown (info : FileInfo) (k0 k1 : SinkSeen) (d0 d1 : ℕ × DiskSeen) {F : Type 0} (counts : F → FaultCounts) (result : Result (Unit {0}) (ShowStop F)) : Type 0 where
  pub bytes : List ℕ
  pub are : AreFileBytes d0.1 info bytes
  pub shown : LinesShow bytes k0 k1 (HasLastFault d0.1.faults d1) counts result

-- The lines of so many pages of a file were shown.
pub record LinesSoFar (info : FileInfo) (page : ℕ) (k0 k1 : SinkSeen) (d0 d1 : ℕ × DiskSeen) : Type 0 where
  pub bytes : List ℕ
  pub are : AreFileBytes d0.1 info bytes
  pub wrote : Wrote k0 k1 (lines_before bytes page)
  pub looks : LooksAt d0 d1
  pub later : k0.faults ≤ k1.faults

-- A file's heading was written, or why not.
abbrev pub IsHeadingShown : List ℕ → SinkSeen → SinkSeen → {F : Type 0} → Result (Unit {0}) (ShowStop F) → Type 0
IsHeadingShown text k0 k1 (Ok done) = Wrote k0 k1 text
IsHeadingShown text k0 k1 (Err show.Memory) = k1 ≡ k0
IsHeadingShown text k0 k1 (Err show.Sink) = HasRisen k0.faults k1.faults × WrotePart k0 k1 text
IsHeadingShown text k0 k1 (Err (show.Fault f)) = ⊥

-- The heading of a file and the lines of its bytes up to the place of a page.
abbrev pub section_before : Heading → ℕ → FileInfo → List ℕ → ℕ → List ℕ
section_before heading file info bytes page = file_section heading file info (take (4096 * page) bytes)

-- The heading of a file and the lines of these bytes were written, or why not.
abbrev pub FileShows : Heading → ℕ → FileInfo → List ℕ → SinkSeen → SinkSeen → (FaultCounts → Type 0) → {F : Type 0} → (F → FaultCounts) → Result (Unit {0}) (ShowStop F) → Type 0
FileShows heading file info bytes k0 k1 is_fault counts result =
    AreLinesShown (file_section heading file info bytes) (section_before heading file info bytes) (pages_in (length bytes)) k0 k1 is_fault counts result

-- A file was shown, whose bytes are these.
pub record FileShown (heading : Heading) (file : ℕ) (info : FileInfo) (k0 k1 : SinkSeen) (d0 d1 : ℕ × DiskSeen) {F : Type 0} (counts : F → FaultCounts)
    (result : Result (Unit {0}) (ShowStop F)) : Type 0 where
  pub bytes : List ℕ
  pub are : AreFileBytes d0.1 info bytes
  pub shown : FileShows heading file info bytes k0 k1 (HasLastFault d0.1.faults d1) counts result

-- A fault is that of the disk of this number, one of these, and its count rose since the start.
abbrev pub IsFaultAmong : List (ℕ × DiskSeen) → List (ℕ × DiskSeen) → ℕ → FaultCounts → Type 0
IsFaultAmong old new number f = (f.number ≡ number) × IsCountedSince old new f

-- A file was shown, whose bytes are those that the disk of these on which it lies has, where that
-- tells.
pub record FileShownAmong (heading : Heading) (file : ℕ) (info : FileInfo) (k0 k1 : SinkSeen) (old new : List (ℕ × DiskSeen)) {F : Type 0}
    (counts : F → FaultCounts) (result : Result (Unit {0}) (ShowStop F)) : Type 0 where
  pub bytes : List ℕ
  pub count : length bytes ≡ info.length
  pub told : (i : ℕ) (disk : ℕ × DiskSeen) → slice_get old i ≡ Some disk → StoresFile disk info bytes
  pub shown : FileShows heading file info bytes k0 k1 (IsFaultAmong old new info.disk) counts result

-- So many files were shown.
pub record FilesSoFar (heading : Heading) (infos : List FileInfo) (file : ℕ) (k0 k1 : SinkSeen) (old new : List (ℕ × DiskSeen)) : Type 0 where
  pub bytes : ℕ → List ℕ
  pub are : AreFilesBytes infos old bytes
  pub wrote : Wrote k0 k1 (file_sections heading (take file infos) bytes)
  pub reads : AreOnlyRead old new
  pub later : k0.faults ≤ k1.faults
