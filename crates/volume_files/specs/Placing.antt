-- How files are taken from tables, placed by lines, and written. Inside: no clause of `run` cites this.
use Rattle.std.specs.Prelude.{ℕ, ◌≡◌, ◌≢◌, ◌<◌, ◌≤◌, ◌+◌, ◌*◌, ◌^◌, ◌==◌, ◌-◌, List, [], ◌∷◌, ◌++◌, length, drop, map, replicate, All, IsSome, Option, Some}
use Rattle.std.specs.Prelude.{None, Result, Ok, Err, slice_index_or, if◌then◌else◌}
use Rattle.std.specs.List.{AllByRecursion}
use Rattle.std.specs.Ordering.{nat_cmp}
use Rattle.std.specs.FinMap as finite
use Rattle.block_device.specs.DiskSeen.{DiskSeen, with_block}
use Rattle.block_device.specs.OpenSeen.{OpenFaultSeen}
use Rattle.block_device.specs.declared.numbered.NumberedDisk.{NumberedDisk}
use Rattle.vm_report.specs.flat_model.Words.{pages_in}
use Rattle.vm_report.specs.flat_model.Parts.{pages_of_bytes}
use Rattle.volume_format.specs.vnode_files.declared.vnode.FileInfo.{FileInfo}
use Rattle.volume_format.specs.vnode_files.Files.{FilesSeen, block_count, vnode_at}
use Rattle.volume_format.specs.vnode_files.Grow.{extent_end, page_count}
use Rattle.volume_format.specs.vnode_files.Layout.{LieOnDisks, NoFilesMeet, HaveFewExtents}
use Rattle.volume_format.specs.vnode_files.Vnode.{fresh_vnode}
use Rattle.volume_format.specs.Table.{TableSeen, empty_table, front_block}
use Rattle.vm_report.specs.vm_script.declared.plan.SetupAct.{SetupAct}
use Rattle.vm_report.specs.vm_script.declared.plan.SetupAct.TheVariants as given
use Rattle.vm_report.specs.vm_script.declared.plan.SetupLine.{SetupLine}
use Rattle.volume_files.specs.declared.stops.OpenStop.{OpenStop}
use Rattle.volume_files.specs.declared.stops.OpenStop.TheVariants as halt
use Rattle.volume_files.specs.declared.stops.Refusal.{Refusal}
use Rattle.volume_files.specs.declared.stops.Refusal.TheVariants as refusal
use Rattle.volume_files.specs.declared.table_files.PlaceStop.{PlaceStop}
use Rattle.volume_files.specs.declared.table_files.PlaceStop.TheVariants as stop
use Rattle.volume_files.specs.Handed.{SpareBlock, block_told}
use Rattle.volume_files.specs.Opened.{OpenedFile, infos_of, with_line_files, if_few}
use Rattle.stored_files.specs.Closed.{info_on, stored_bytes}
use Rattle.stored_files.specs.Written.{numbered_seen}
use Rattle.stored_files.specs.Written.{HasLastFault, open_fault_counts}

-- The files have these records, and no page was written.
abbrev pub HasOpened : FilesSeen → List OpenedFile → Type 0
HasOpened made files = made.files ≡ map fresh_vnode (infos_of files)

-- The files with those of these records behind them.
abbrev pub with_infos : FilesSeen → List FileInfo → FilesSeen
with_infos s infos = record s { files = s.files ++ map fresh_vnode infos }

-- Each file's disk was set.
abbrev pub HaveSetDisks : FilesSeen → Type 0
HaveSetDisks s = All (λ v. IsSome (finite.get s.disks v.info.disk)) s.files

-- The numbers of disks.
abbrev pub attached_numbers : {D : Type 0} → List (NumberedDisk D) → List ℕ
attached_numbers disks = map (λ d. d.number) disks

-- The number and the size of each disk, as it is seen.
abbrev pub sizes_by_number : {D : Type 0} → (D → DiskSeen) → List (NumberedDisk D) → List (ℕ × ℕ)
sizes_by_number seen disks = map (λ (d : NumberedDisk _). (d.number, (seen d.disk).size)) disks

-- Table i of a list, or the empty one of a disk without blocks if there are fewer.
abbrev pub table_at : List TableSeen → ℕ → TableSeen
table_at tables i = slice_index_or tables i (empty_table 0)

-- A record that may be added: its extents and pages are numbers of 32 bits, and its length fits its
-- pages.
pub record IsAddable (info : FileInfo) : Type 0 where
  pub blocks : All (λ e. extent_end e ≤ 2 ^ 32) info.extents
  pub pages : page_count info.extents < 2 ^ 32
  pub within : info.length ≤ page_count info.extents * 4096

-- Each entry of each table may be added.
abbrev pub HaveAddable : List TableSeen → Type 0
HaveAddable tables = (i : ℕ) → i < length tables → All IsAddable (table_at tables i).entries

-- Each disk of these numbers was set.
abbrev pub AreSet : finite.FinMap nat_cmp ℕ → List ℕ → Type 0
AreSet disks numbers = (i : ℕ) → i < length numbers → IsSome (finite.get disks (slice_index_or numbers i 0))

-- Tables aren't taken for want of memory, or since they have more files than there may be.
abbrev pub IsTooMany : ℕ → PlaceStop → Type 0
IsTooMany total stop.Memory = Unit {0}
IsTooMany total (stop.Rule n) = (n ≡ 10) × (64 < total)
IsTooMany total (stop.Fault f) = ⊥

-- Why a step that adds files stopped, where these files were due: for want of memory, or by the
-- rule that is broken.
abbrev pub Stopped : Result (List OpenedFile) Refusal → PlaceStop → Type 0
Stopped read stop.Memory = Unit {0}
Stopped read (stop.Rule n) = read ≡ Err (refusal.Rule n)
Stopped read (stop.Fault f) = ⊥

-- A step gave the files that were due, if any were.
abbrev pub Gave : FilesSeen → Result (List OpenedFile) Refusal → Type 0
Gave new (Ok files) = HasOpened new files
Gave new (Err r) = ⊥

-- A step that adds files gave those that were due, or stopped with a cause.
abbrev pub Placing : FilesSeen → Result (List OpenedFile) Refusal → Result (Unit {0}) PlaceStop → Type 0
Placing new read (Ok done) = Gave new read
Placing new read (Err e) = Stopped read e

-- The files lie well on disks that were set.
pub record LieRight (s : FilesSeen) : Type 0 where
  pub set : HaveSetDisks s
  pub on_disks : LieOnDisks s
  pub apart : NoFilesMeet s
  pub few : HaveFewExtents s

-- A file line has a name of 1 to 16 bytes, 1 to 16,383 pages, and no more bytes than these hold.
abbrev pub IsPlaceable : SetupAct → Type 0
IsPlaceable (given.File name writable disk pages bytes) =
    (1 ≤ length name) × (length name ≤ 16) × (1 ≤ pages) × (pages ≤ 16383) × (length bytes ≤ pages * 4096)
IsPlaceable a = Unit {0}

-- The bytes that a line's file begins with, if the line gives a file.
abbrev pub bytes_given : SetupAct → Option (List ℕ)
bytes_given (given.File name writable disk pages bytes) = Some bytes
bytes_given a = None

-- The files with that of a line, if it gives one, before those behind it.
abbrev pub with_given : Option (List ℕ) → FileInfo → List OpenedFile → List OpenedFile → List OpenedFile
with_given (Some bytes) info more same = record { info = info; bytes = bytes } ∷ more
with_given None info more same = same

-- The files that these lines give, numbered from a number on, with the bytes that the lines have.
abbrev pub line_files : FilesSeen → ℕ → List SetupLine → List OpenedFile
line_files made k [] = []
line_files made k (l ∷ setup) = with_given (bytes_given l.act) (vnode_at made k).info (line_files made (k + 1) setup) (line_files made k setup)

-- The pages that bytes fill, the last one with zeros behind them.
abbrev pub filled_pages : List ℕ → List (List ℕ)
filled_pages bytes =
    pages_of_bytes (pages_in (length bytes)) (bytes ++ replicate (4096 * pages_in (length bytes) - length bytes) 0)

-- The content with these pages from a block on, where it is told.
abbrev pub with_block_pages : Option (List (List ℕ)) → ℕ → List (List ℕ) → Option (List (List ℕ))
with_block_pages content start [] = content
with_block_pages content start (page ∷ pages) = with_block_pages (with_block content start page) (start + 1) pages

-- The content of the disk of a number with the pages of a file that begins with these bytes.
abbrev pub with_file : ℕ → Option (List (List ℕ)) → FileInfo → List ℕ → Option (List (List ℕ))
with_file number content info bytes =
    if info.disk == number then with_block_pages content (front_block info.extents) (filled_pages bytes) else content

-- The content of the disk of a number with the pages of all these files, one file after another.
abbrev pub with_file_pages : ℕ → Option (List (List ℕ)) → List OpenedFile → Option (List (List ℕ))
with_file_pages number content [] = content
with_file_pages number content (f ∷ files) = with_file_pages number (with_file number content f.info f.bytes) files

-- A disk keeps its number, its size and its kind, its count of faults doesn't fall, and where it didn't tell it doesn't.
pub record RemainsThere {D : Type 0} (seen : D → DiskSeen) (old new : NumberedDisk D) : Type 0 where
  pub number : new.number ≡ old.number
  pub size : (seen new.disk).size ≡ (seen old.disk).size
  pub kind : (seen new.disk).kind ≡ (seen old.disk).kind
  pub later : (seen old.disk).faults ≤ (seen new.disk).faults
  pub untold : (seen old.disk).content ≡ None → (seen new.disk).content ≡ None

-- Disks stand in their order, and each keeps its number, size and kind; its count of faults didn't
-- fall, and it tells only if it told.
pub record RemainThere {D : Type 0} (seen : D → DiskSeen) (old new : List (NumberedDisk D)) : Type 0 where
  pub count : length new ≡ length old
  pub each : (i : ℕ) (d : NumberedDisk D) → i < length old → RemainsThere seen (slice_index_or old i d) (slice_index_or new i d)

-- A fault is that of the last transfer of the disk.
abbrev pub IsFaultOne : {D : Type 0} → (D → DiskSeen) → NumberedDisk D → OpenFaultSeen → Type 0
IsFaultOne seen disk fault = HasLastFault 0 (numbered_seen seen disk) (open_fault_counts fault)

-- A fault is that of the last transfer of one of the disks.
pub record IsFaultThere {D : Type 0} (seen : D → DiskSeen) (disks : List (NumberedDisk D)) (fault : OpenFaultSeen) : Type 0 where
  pub i : ℕ
  pub inside : i < length disks
  pub one : (d : NumberedDisk D) → IsFaultOne seen (slice_index_or disks i d) fault

-- Each disk has what it had, with the pages of one file of that record and those bytes where it
-- lies.
abbrev pub WroteOne : {D : Type 0} → (D → DiskSeen) → FileInfo → List ℕ → List (NumberedDisk D) → List (NumberedDisk D) → Type 0
WroteOne seen info bytes old new =
    (i : ℕ) (d : NumberedDisk _) → i < length old
    → (seen (slice_index_or new i d).disk).content ≡ with_file (slice_index_or old i d).number (seen (slice_index_or old i d).disk).content info bytes

-- Each disk has what it had, with the pages of these files where they lie.
abbrev pub WroteEach : {D : Type 0} → (D → DiskSeen) → List OpenedFile → List (NumberedDisk D) → List (NumberedDisk D) → Type 0
WroteEach seen files old new =
    (i : ℕ) (d : NumberedDisk _) → i < length old
    → (seen (slice_index_or new i d).disk).content ≡ with_file_pages (slice_index_or old i d).number (seen (slice_index_or old i d).disk).content files

-- A disk has what it had in each block that is spared for a disk of its number.
abbrev pub KeepsThere : {D : Type 0} → (D → DiskSeen) → (ℕ → ℕ → Type 0) → NumberedDisk D → NumberedDisk D → Type 0
KeepsThere seen spared old new = (block : ℕ) → spared old.number block → block_told (seen new.disk).content block ≡ block_told (seen old.disk).content block

-- Each of these disks has what it had in each block that is spared for a disk of its number.
abbrev pub KeepThere : {D : Type 0} → (D → DiskSeen) → (ℕ → ℕ → Type 0) → List (NumberedDisk D) → List (NumberedDisk D) → Type 0
KeepThere seen spared old new =
    (i : ℕ) (d : NumberedDisk _) → i < length old → KeepsThere seen spared (slice_index_or old i d) (slice_index_or new i d)

-- The pages that a file's bytes fill lie on each disk of its number.
abbrev pub HasPlaceOn : {D : Type 0} → (D → DiskSeen) → FileInfo → List ℕ → NumberedDisk D → Type 0
HasPlaceOn seen info bytes disk =
    info.disk ≡ disk.number
    → (front_block info.extents + pages_in (length bytes) ≤ (seen disk.disk).size) × (front_block info.extents + pages_in (length bytes) < 2 ^ 32)

-- The pages that a file's bytes fill fit the disks of the file's number.
abbrev pub HasPlaces : {D : Type 0} → (D → DiskSeen) → List (NumberedDisk D) → FileInfo → List ℕ → Type 0
HasPlaces seen disks info bytes = All (HasPlaceOn seen info bytes) disks

-- The pages that the bytes of each of these files fill fit the disks of its number.
abbrev pub HavePlaces : {D : Type 0} → (D → DiskSeen) → List (NumberedDisk D) → List OpenedFile → Type 0
HavePlaces seen disks files = All (λ f. HasPlaces seen disks f.info f.bytes) files

-- The bytes that a content has of a file, or zeros, as many as its length, where the content isn't
-- told.
abbrev pub content_bytes : Option (List (List ℕ)) → FileInfo → List ℕ
content_bytes None info = replicate info.length 0
content_bytes (Some blocks) info = stored_bytes blocks info

-- A file of a disk as it is attached: its record on the disk of that number, with its bytes, or
-- zeros where the disk doesn't tell.
abbrev pub found_file : ℕ × DiskSeen → FileInfo → OpenedFile
found_file disk info = record { info = info_on disk.0 info; bytes = content_bytes disk.1.content info }

-- The files that disks have as they are attached, in turn by the tables, zeros for the bytes of
-- those whose disks don't tell.
abbrev pub found_files : List (ℕ × DiskSeen) → List TableSeen → List OpenedFile
found_files [] tables = []
found_files (d ∷ disks) [] = []
found_files (d ∷ disks) (t ∷ tables) = map (found_file d) t.entries ++ found_files disks tables

-- The numbers differ.
abbrev pub Distinct : List ℕ → Type 0
Distinct [] = Unit {0}
Distinct (n ∷ numbers) = AllByRecursion (λ m. n ≢ m) numbers × Distinct numbers

-- The names of the files.
abbrev pub names_made : FilesSeen → List (List ℕ)
names_made made = map (λ v. v.info.name) made.files

-- What placing comes to: the files that the disks have, and then those of the lines; or the rule that is broken.
abbrev pub placing_read : {D : Type 0} → (D → DiskSeen) → List (NumberedDisk D) → List TableSeen → List SetupLine → Result (List OpenedFile) Refusal
placing_read seen disks tables setup =
    with_line_files (block_count (finite.from_entries (sizes_by_number seen disks))) (if_few (Ok (found_files (map (numbered_seen seen) disks) tables))) setup

-- The files are placed, and those of the lines were written.
pub record PlacesFiles {D : Type 0} (seen : D → DiskSeen) (setup : List SetupLine) (old : List (NumberedDisk D)) (tables : List TableSeen)
    (new : List (NumberedDisk D)) (files : FilesSeen) : Type 0 where
  pub opened : List OpenedFile
  pub read : placing_read seen old tables setup ≡ Ok opened
  pub has : HasOpened files opened
  pub lie : LieRight files
  pub disks : files.disks ≡ finite.from_entries (sizes_by_number seen old)
  pub wrote : WroteEach seen (line_files files (length (found_files (map (numbered_seen seen) old) tables)) setup) old new
  pub keep : KeepThere seen (SpareBlock (line_files files (length (found_files (map (numbered_seen seen) old) tables)) setup)) old new

-- Why placing stopped: want of memory or a broken rule before anything was written, or the fault of a disk, which breaks no rule; so many of the files are
-- those of the tables, and where the bytes of the others lie alone was written.
abbrev pub PlaceStopped : {D : Type 0} → (D → DiskSeen) → ℕ → Result (List OpenedFile) Refusal → List (NumberedDisk D) → List (NumberedDisk D) → PlaceStop → Type 0
PlaceStopped seen count read old new stop.Memory = new ≡ old
PlaceStopped seen count read old new (stop.Rule n) = (read ≡ Err (refusal.Rule n)) × (new ≡ old)
PlaceStopped seen count read old new (stop.Fault f) =
    IsFaultThere seen new f × ((files : List OpenedFile) × (read ≡ Ok files) × KeepThere seen (SpareBlock (drop count files)) old new)

-- Why files weren't opened, where they weren't placed.
abbrev pub open_stop_of : PlaceStop → OpenStop
open_stop_of stop.Memory = halt.Memory
open_stop_of (stop.Rule n) = halt.Refused (refusal.Rule n)
open_stop_of (stop.Fault f) = halt.Failed f
