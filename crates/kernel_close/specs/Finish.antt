-- What is left of a kernel that was closed: its history, and its files with their pages on the disks. Public clauses cite this.
use Rattle.std.specs.Prelude.{ℕ, ◌≡◌, ◌⊎◌, ◌≤◌, ◌<◌, List, [], length, map, IsFalse, Option, Some, None, IfSome, slice_index_or}
use Rattle.seg_ops.specs.vm_types.declared.call.Entry.{Entry}
use Rattle.seg_ops.specs.vm_types.Pages.{bytes_before}
use Rattle.seg_ops.specs.block_device.DiskSeen.{DiskSeen}
use Rattle.seg_ops.specs.block_device.Faults.{IsFaultSince}
use Rattle.seg_ops.specs.block_device.declared.disk_fault.DiskFault.{DiskFault}
use Rattle.seg_ops.specs.page_hash.declared.PageName.{PageName}
use Rattle.seg_ops.specs.page_store.Bays.{no_disk, disks_in}
use Rattle.seg_ops.specs.page_store.Bytes.{clip}
use Rattle.seg_ops.specs.page_store.Notes.{no_notes}
use Rattle.seg_ops.specs.vnode_files.Files.{FilesSeen, vnode_at}
use Rattle.seg_ops.specs.vnode_files.Vnode.{VnodeSeen, is_blank}
use Rattle.seg_ops.specs.vnode_files.Layout.{disk_of_file, block_of_page}
use Rattle.seg_ops.specs.flat_model.Flat.{Flat}
use Rattle.seg_ops.specs.flat_model.Words.{Page, pages_in}
use Rattle.seg_ops.specs.vm_world.Pages.{page_value}
use Rattle.seg_ops.specs.vm_world.State.{KernelState, Seats}
use Rattle.seg_ops.specs.vm_world.StateFits.{StateFits}
use Rattle.seg_ops.specs.vm_world.World.{World}

-- The state fits some opening, while no seat has anything outside.
abbrev pub FitsStill : KernelState → Type 0
FitsStill s = (opening : Flat) × (seats : Seats) × StateFits opening s seats × ((seat : ℕ) → seats seat ≡ None)

-- A history that a kernel left: its entries, and by number how many faults each disk had counted as the kernel was closed; the swap disk has number 8.
pub record HistorySeen : Type 0 where
  pub entries : List Entry
  pub faults : List (Option ℕ)

-- The disks of a world, with their numbers, in the order in which they came.
abbrev pub disks_of : World → List (ℕ × DiskSeen)
disks_of w = disks_in w.store.bays w.store.order

-- A disk of a list, with its number.
abbrev pub disk_at : List (ℕ × DiskSeen) → ℕ → ℕ × DiskSeen
disk_at disks i = slice_index_or disks i (0, no_disk)

-- A page of a file, below the file's length.
pub record IsFilePage (files : FilesSeen) (name : PageName) : Type 0 where
  pub file : name.object < length files.files
  pub below : name.page < pages_in (vnode_at files name.object).info.length

-- How many bytes of a page lie before its file's end.
abbrev pub bytes_of_page : FilesSeen → PageName → ℕ
bytes_of_page files name = bytes_before (vnode_at files name.object).info.length name.page

-- Blocks have a page of a file, as far as the file goes.
abbrev pub HoldsPage : FilesSeen → List (List ℕ) → PageName → Page → Type 0
HoldsPage files blocks name page =
    clip (bytes_of_page files name) (slice_index_or blocks (block_of_page files name.object name.page) []) ≡ clip (bytes_of_page files name) page

-- A disk, where it tells, has each page of each file that lies there, as the world shows it while no seat has anything outside.
abbrev pub HoldsFiles : World → ℕ × DiskSeen → Type 0
HoldsFiles w disk = IfSome disk.1.content (λ blocks. (name : PageName) → IsFilePage w.files name → disk_of_file w.files name.object ≡ disk.0
    → HoldsPage w.files blocks name (page_value w no_notes name))

-- Each of these disks, where it tells, has each page of each file that lies there.
abbrev pub HoldAllFiles : World → List (ℕ × DiskSeen) → Type 0
HoldAllFiles w disks = (i : ℕ) → i < length disks → HoldsFiles w (disk_at disks i)

-- The block of a page has the page, as far as its file goes, or what it had.
abbrev pub HoldsOrKeeps : World → List (List ℕ) → List (List ℕ) → PageName → Type 0
HoldsOrKeeps w was now name =
    HoldsPage w.files now name (page_value w no_notes name)
    ⊎ (slice_index_or now (block_of_page w.files name.object name.page) [] ≡ slice_index_or was (block_of_page w.files name.object name.page) [])

-- The page lies in this block of this disk.
abbrev pub LiesIn : FilesSeen → ℕ → ℕ → PageName → Type 0
LiesIn files disk block name = (disk_of_file files name.object ≡ disk) × (block_of_page files name.object name.page ≡ block)

-- Of a disk that tells: the block of each page of a file there has the page, as far as its file
-- goes, or what it had, but for the spoiled block of the spoiled disk.
abbrev pub LeavesPages : World → ℕ → ℕ → ℕ × DiskSeen → ℕ × DiskSeen → Type 0
LeavesPages w disk block was now =
    IfSome was.1.content (λ old. IfSome now.1.content (λ new. (name : PageName) → IsFilePage w.files name → disk_of_file w.files name.object ≡ was.0
    → LiesIn w.files disk block name ⊎ HoldsOrKeeps w old new name))

-- On all of these disks the block of each page of a file has the page or what it had, but for one
-- block of this disk.
abbrev pub LeaveAllPages : World → List (ℕ × DiskSeen) → List (ℕ × DiskSeen) → ℕ → Type 0
LeaveAllPages w old new disk = (block : ℕ) × ((i : ℕ) → i < length old → LeavesPages w disk block (disk_at old i) (disk_at new i))

-- The block of a disk is that of a page of a file.
pub record IsPageBlock (files : FilesSeen) (disk block : ℕ) : Type 0 where
  pub name : PageName
  pub page : IsFilePage files name
  pub on_disk : disk_of_file files name.object ≡ disk
  pub in_block : block_of_page files name.object name.page ≡ block

-- A disk tells where it did; and each block that is no page's of a file is as it was.
abbrev pub KeepsOtherBlocks : FilesSeen → ℕ → Option (List (List ℕ)) → Option (List (List ℕ)) → Type 0
KeepsOtherBlocks files disk None None = Unit {0}
KeepsOtherBlocks files disk (Some old) (Some new) =
    (length new ≡ length old) × ((block : ℕ) → ¬ IsPageBlock files disk block → slice_index_or new block [] ≡ slice_index_or old block [])
KeepsOtherBlocks files disk old new = ⊥

-- A disk has its number, its size, its kind and those blocks, and its count of faults didn't fall.
pub record KeepsDisk (files : FilesSeen) (old new : ℕ × DiskSeen) : Type 0 where
  pub number : new.0 ≡ old.0
  pub size : new.1.size ≡ old.1.size
  pub kind : new.1.kind ≡ old.1.kind
  pub faults : old.1.faults ≤ new.1.faults
  pub blocks : KeepsOtherBlocks files old.0 old.1.content new.1.content

-- Each disk has its number, its size, its kind and the blocks that are no page's of a file, and
-- they are in their order.
pub record KeepDisks (files : FilesSeen) (old new : List (ℕ × DiskSeen)) : Type 0 where
  pub count : length new ≡ length old
  pub each : (i : ℕ) → i < length old → KeepsDisk files (disk_at old i) (disk_at new i)

-- The fault is that of the last transfer of one of the disks, made since that disk was the old one.
abbrev pub IsLastFault : List (ℕ × DiskSeen) → List (ℕ × DiskSeen) → DiskFault → Type 0
IsLastFault old new fault = (i : ℕ) × (i < length old) × IsFaultSince (disk_at old i).0 (disk_at old i).1.faults (disk_at new i).1 fault

-- The files have their records, on disks of the same sizes; which of their pages are blank may differ.
pub record KeepRecords (old new : FilesSeen) : Type 0 where
  pub disks : new.disks ≡ old.disks
  pub infos : map (λ (v : VnodeSeen). v.info) new.files ≡ map (λ (v : VnodeSeen). v.info) old.files

-- No page of a file is blank.
abbrev pub HaveNoBlankPage : FilesSeen → Type 0
HaveNoBlankPage files = (name : PageName) → IsFilePage files name → IsFalse (is_blank (vnode_at files name.object) name.page)
