-- How pages of files come to be on their disks. Inside: no public clause cites this.
use Rattle.std.specs.Prelude.{ℕ, ◌≡◌, ◌⊎◌, ◌<◌, List, [], length, Option, Some, Result, IsSome, IsSomeAnd, IfSome, IsTrue, IsFalse, if◌then◌else◌, slice_index_or, slice_set}
use Rattle.std.specs.FinMap as finite
use Rattle.seg_ops.specs.block_device.DiskSeen.{DiskSeen, Writes}
use Rattle.seg_ops.specs.block_device.Faults.{IsFaultSince}
use Rattle.seg_ops.specs.block_device.declared.disk_fault.DiskFault.{DiskFault}
use Rattle.seg_ops.specs.core_arena.Bytes.{zeros}
use Rattle.seg_ops.specs.page_hash.declared.PageName.{PageName}
use Rattle.seg_ops.specs.page_store.Bays.{BaySeen, missing, home, out, bay_at, block_of, numbers_of, AreNumbers, disk_in}
use Rattle.seg_ops.specs.page_store.Bytes.{clip}
use Rattle.seg_ops.specs.page_store.Notes.{no_notes}
use Rattle.seg_ops.specs.vnode_files.Files.{FilesSeen, vnode_at}
use Rattle.seg_ops.specs.vnode_files.Layout.{disk_of_file, block_of_page}
use Rattle.seg_ops.specs.vnode_files.Vnode.{is_blank}
use Rattle.seg_ops.specs.vm_world.FramesFit.{FilesFit}
use Rattle.seg_ops.specs.vm_world.MemoryFits.{MemoryFits}
use Rattle.seg_ops.specs.vm_world.NotesFit.{NotesFit}
use Rattle.seg_ops.specs.vm_world.Pages.{page_value}
use Rattle.seg_ops.specs.vm_world.Segments.{Spaces}
use Rattle.seg_ops.specs.vm_world.World.{World, AllTell}
use Rattle.seg_ops.specs.vm_world.WorldSteps.{KeepsTables}
use Rattle.kernel_close.specs.Finish.{IsFilePage, LiesIn, bytes_of_page, disk_at, KeepsDisk, KeepDisks, KeepRecords, IsLastFault}

-- A disk that is home stays so, and keeps what isn't a page of a file; nothing else is there that wasn't.
abbrev pub KeepsBay : FilesSeen → ℕ → BaySeen → BaySeen → Type 0
KeepsBay files number missing new = new ≡ missing
KeepsBay files number (home d) new = (e : DiskSeen) × (new ≡ home e) × KeepsDisk files (number, d) (number, e)
KeepsBay files number (out seat) new = new ≡ out seat

-- Pages of files are pushed, one after another, while no seat has anything outside: memory fits as before, each page of a file keeps what it has of the
-- file, and the disks what isn't such a page.
pub record PushesPages (old new : World) (spaces : Spaces) : Type 0 where
  pub tables : KeepsTables old new
  pub order : new.store.order ≡ old.store.order
  pub swap : bay_at new.store.bays 8 ≡ bay_at old.store.bays 8
  pub disks : (number : ℕ) → KeepsBay old.files number (bay_at old.store.bays number) (bay_at new.store.bays number)
  pub memory : MemoryFits (record { world = new; spaces = spaces })
  pub notes : NotesFit new no_notes
  pub tells : AllTell old no_notes → AllTell new no_notes
  pub values : AllTell old no_notes → (name : PageName) → IsFilePage old.files name
      → clip (bytes_of_page old.files name) (page_value new no_notes name) ≡ clip (bytes_of_page old.files name) (page_value old no_notes name)

-- What the place of a page of a file has, on this disk.
abbrev pub page_on_disk : FilesSeen → DiskSeen → PageName → List ℕ
page_on_disk files disk name =
    if is_blank (vnode_at files name.object) name.page then zeros
    else clip (bytes_of_page files name) (block_of disk.content (block_of_page files name.object name.page))

-- A page of a file is stored: without its frame it would have the same bytes of the file.
abbrev pub IsStored : World → PageName → Type 0
IsStored w name =
    clip (bytes_of_page w.files name) (page_on_disk w.files (disk_in (bay_at w.store.bays (disk_of_file w.files name.object))) name)
    ≡ clip (bytes_of_page w.files name) (page_value w no_notes name)

-- Where the disks tell, each page of a file that was stored is stored, and so are these pages.
abbrev pub StoresPages : World → World → (PageName → Type 0) → Type 0
StoresPages old new these =
    AllTell old no_notes → (name : PageName) → IsFilePage old.files name → IsStored old name ⊎ these name → IsStored new name

-- What the block of a page of a file has, on its disk.
abbrev pub block_on : World → PageName → List ℕ
block_on w name = block_of (disk_in (bay_at w.store.bays (disk_of_file w.files name.object))).content (block_of_page w.files name.object name.page)

-- A block has a page as far as its file goes, with zeros after it.
pub record HasPageAndZeros (w : World) (name : PageName) (block : List ℕ) : Type 0 where
  pub page : clip (bytes_of_page w.files name) block ≡ clip (bytes_of_page w.files name) (page_value w no_notes name)
  pub rest : block ≡ clip (bytes_of_page w.files name) block

-- The block of a page of a file has the page then, with zeros after it, or what it had.
abbrev pub GoesOrStays : World → World → PageName → Type 0
GoesOrStays old new name = HasPageAndZeros old name (block_on new name) ⊎ (block_on new name ≡ block_on old name)

-- The block of each page of a file, these aside, has the page then, with zeros after it, or what it
-- had.
abbrev pub GoOrStay : World → World → (PageName → Type 0) → Type 0
GoOrStay old new spoiled = AllTell old no_notes → (name : PageName) → IsFilePage old.files name → spoiled name ⊎ GoesOrStays old new name

-- Holds of no page.
abbrev pub no_page : PageName → Type 0
no_page name = ⊥

-- The fault is that of the last transfer of a disk of files, made since that disk was the one of the old bays.
pub record IsFaultOfBays (old new : List BaySeen) (fault : DiskFault) : Type 0 where
  pub before : DiskSeen
  pub after : DiskSeen
  pub low : fault.disk < 8
  pub was : bay_at old fault.disk ≡ home before
  pub is : bay_at new fault.disk ≡ home after
  pub since : IsFaultSince fault.disk before.faults after fault

-- A push failed: its fault, and one block that isn't as it was, nor has its page.
pub record FailsToPush (old new : World) (fault : DiskFault) : Type 0 where
  pub cause : IsFaultOfBays old.store.bays new.store.bays fault
  pub block : ℕ
  pub others : GoOrStay old new (LiesIn old.files fault.disk block)

-- These are the disks of the files: each file's disk is one of them, and has the size that its files count on.
pub record AreDisksOf (files : FilesSeen) (disks : List (ℕ × DiskSeen)) : Type 0 where
  pub fits : FilesFit files
  pub numbers : AreNumbers (numbers_of disks)
  pub there : (file : ℕ) → file < length files.files → (i : ℕ) × (i < length disks) × ((disk_at disks i).0 ≡ disk_of_file files file)
  pub sizes : (i blocks : ℕ) → i < length disks → finite.get files.disks (disk_at disks i).0 ≡ Some blocks → (disk_at disks i).1.size ≡ blocks

-- Zeros are written to blank pages of files, which aren't blank then.
pub record WritesBlanks (F : FilesSeen) (L : List (ℕ × DiskSeen)) (G : FilesSeen) (M : List (ℕ × DiskSeen)) : Type 0 where
  pub records : KeepRecords F G
  pub disks : KeepDisks F L M
  pub are : AreDisksOf G M

-- Each place has what it had, and these pages aren't blank then, nor those that weren't.
pub record FillsPages (F : FilesSeen) (L : List (ℕ × DiskSeen)) (G : FilesSeen) (M : List (ℕ × DiskSeen)) (these : PageName → Type 0) : Type 0 where
  pub stored : (i : ℕ) (name : PageName) → i < length L → IsFilePage F name → disk_of_file F name.object ≡ (disk_at L i).0
      → IsSome (disk_at L i).1.content → page_on_disk G (disk_at M i).1 name ≡ page_on_disk F (disk_at L i).1 name
  pub filled : (name : PageName) → IsFilePage F name → IsFalse (is_blank (vnode_at F name.object) name.page) ⊎ these name
      → IsFalse (is_blank (vnode_at G name.object) name.page)

-- The block of a page of a file has zeros then, where the page was blank, or what it had.
abbrev pub ZeroedOrStays : FilesSeen → DiskSeen → DiskSeen → PageName → Type 0
ZeroedOrStays files was now name =
    (IsTrue (is_blank (vnode_at files name.object) name.page) × (block_of now.content (block_of_page files name.object name.page) ≡ zeros))
    ⊎ (block_of now.content (block_of_page files name.object name.page) ≡ block_of was.content (block_of_page files name.object name.page))

-- The block of each page of a file on these disks, these pages aside, has zeros then, where the
-- page was blank, or what it had.
abbrev pub ZeroedOrStay : FilesSeen → List (ℕ × DiskSeen) → List (ℕ × DiskSeen) → (PageName → Type 0) → Type 0
ZeroedOrStay files old new spoiled =
    (i : ℕ) (name : PageName) → i < length old → IsFilePage files name → disk_of_file files name.object ≡ (disk_at old i).0
    → IsSome (disk_at old i).1.content → spoiled name ⊎ ZeroedOrStays files (disk_at old i).1 (disk_at new i).1 name

-- A write of zeros failed: its fault, and one block that isn't as it was, nor has zeros.
pub record FailsToFill (files : FilesSeen) (old new : List (ℕ × DiskSeen)) (fault : DiskFault) : Type 0 where
  pub cause : IsLastFault old new fault
  pub block : ℕ
  pub others : ZeroedOrStay files old new (LiesIn files fault.disk block)

-- Zeros are written to a block of the disk of a number.
pub record WritesZeros {E : Type 0} (before after : List (ℕ × DiskSeen)) (number block : ℕ) (result : Result (Unit {0}) E) : Type 0 where
  pub at : ℕ
  pub within : at < length before
  pub on_disk : (disk_at before at).0 ≡ number
  pub disk : DiskSeen
  pub new : after ≡ slice_set before at (number, disk)
  pub writes : Writes (disk_at before at).1 disk block zeros result

-- The page lies in the block of which a transfer failed.
abbrev pub IsSpoiled : FilesSeen → Option DiskFault → ℕ → PageName → Type 0
IsSpoiled files fault block name = IsSomeAnd fault (λ f. LiesIn files f.disk block name)

-- The block of a page has the page, with zeros after it, or what it had.
abbrev pub IsWrittenOrKept : World → List (List ℕ) → List (List ℕ) → PageName → Type 0
IsWrittenOrKept w was now name =
    HasPageAndZeros w name (slice_index_or now (block_of_page w.files name.object name.page) [])
    ⊎ (slice_index_or now (block_of_page w.files name.object name.page) [] ≡ slice_index_or was (block_of_page w.files name.object name.page) [])

-- Of a disk that tells: the block of each page of a file that lies there has the page, with zeros
-- after it, or what it had, unless the page is spoiled.
abbrev pub WritesPages : World → Option DiskFault → ℕ → ℕ × DiskSeen → ℕ × DiskSeen → Type 0
WritesPages w fault block was now =
    IfSome was.1.content (λ old. IfSome now.1.content (λ new. (name : PageName) → IsFilePage w.files name → disk_of_file w.files name.object ≡ was.0
    → IsSpoiled w.files fault block name ⊎ IsWrittenOrKept w old new name))

-- On all of these disks the block of each page of a file has the page or what it had, by whether a
-- transfer failed, and by the block that it was of.
abbrev pub WriteAllPages : World → List (ℕ × DiskSeen) → List (ℕ × DiskSeen) → Option DiskFault → Type 0
WriteAllPages w old new fault = (block : ℕ) × ((i : ℕ) → i < length old → WritesPages w fault block (disk_at old i) (disk_at new i))
