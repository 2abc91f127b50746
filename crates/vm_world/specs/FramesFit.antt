-- Frames, files and disks. Public clauses cite this.
use Rattle.std.specs.Prelude.{◌≡◌, ◌≢◌, ℕ, ◌<◌, ◌≤◌, ◌^◌, false, List, map, length, Some, IsSome, IsTrue}
use Rattle.std.specs.Ordering.{nat_cmp}
use Rattle.std.specs.FinMap as finite
use Rattle.page_store.specs.block_device.DiskSeen.{DiskSeen}
use Rattle.page_store.specs.page_hash.Names.{name_at}
use Rattle.page_store.specs.page_hash.declared.PageName.{PageName}
use Rattle.page_store.specs.page_lock.Rows.{row_at}
use Rattle.page_store.specs.Bays.{BaySeen, missing, home, bay_at}
use Rattle.page_store.specs.Layout.{FileBlocks, KeepsPage, AreDisjoint}
use Rattle.page_store.specs.Seen.{StoreSeen, IsSoundStore, IsListedFrame}
use Rattle.anon_slots.specs.Slots.{AnonSlotsSeen}
use Rattle.flat_model.specs.vnode_files.Files.{FilesSeen, vnode_at, block_count}
use Rattle.flat_model.specs.vnode_files.Layout.{LieOnDisks, NoFilesMeet, HaveFewExtents}
use Rattle.flat_model.specs.vnode_files.Vnode.{IsSoundVnode}
use Rattle.vm_world.specs.World.{file_blocks, page_exists}

-- The frame tables agree; no frame is kept; a page on the cache list isn't modified; and each name that a frame holds is that of a page which exists.
pub record FramesFit (store : StoreSeen) (files : FilesSeen) (anon : AnonSlotsSeen) : Type 0 where
  pub sound : IsSoundStore store
  pub unkept : (frame : ℕ) → (row_at store.rows frame).keeps ≡ 0
  pub unmodified : (frame : ℕ) → IsListedFrame store frame → (row_at store.rows frame).modified ≡ false
  pub exist : (frame : ℕ) (name : PageName) → name_at store.names frame ≡ Some name → IsTrue (page_exists files anon name)

-- A disk has fewer than 2^20 blocks, so that a file's end has a number; each file agrees with its extents, on a disk that was set; no block is that of two
-- pages; each block lies on its disk, past block 0; and the extents of a disk are such as the table of its volume can have, one for each file at least.
pub record FilesFit (files : FilesSeen) : Type 0 where
  pub small : (number blocks : ℕ) → finite.get files.disks number ≡ Some blocks → blocks < 2 ^ 20
  pub each : (file : ℕ) → file < length files.files → IsSoundVnode (vnode_at files file)
  pub disjoint : AreDisjoint (map file_blocks files.files)
  pub set : (file : ℕ) → file < length files.files → IsSome (finite.get files.disks (vnode_at files file).info.disk)
  pub low : (name : PageName) (file : FileBlocks) (block : ℕ) → KeepsPage (map file_blocks files.files) name file block → 1 ≤ block
  pub high : (name : PageName) (file : FileBlocks) (block : ℕ) → KeepsPage (map file_blocks files.files) name file block → block < block_count files.disks file.disk
  pub lie : LieOnDisks files
  pub apart : NoFilesMeet files
  pub few : HaveFewExtents files
  pub some : (file : ℕ) → file < length files.files → 1 ≤ length (vnode_at files file).info.extents

-- The disk of a number has the blocks that the files count on, or, as the swap disk, one for each slot.
pub record HasSize (disks : finite.FinMap nat_cmp ℕ) (slots number size : ℕ) : Type 0 where
  pub file : (blocks : ℕ) → finite.get disks number ≡ Some blocks → size ≡ blocks
  pub swap : number ≡ 8 → slots ≤ size

-- The disks that the files and the slots count on are there, no other is, and those that are home have their size; where there are no slots there is no
-- swap disk.
pub record DisksFit (bays : List BaySeen) (disks : finite.FinMap nat_cmp ℕ) (slots : ℕ) : Type 0 where
  pub numbers : (number blocks : ℕ) → finite.get disks number ≡ Some blocks → number < 8
  pub there : (number blocks : ℕ) → finite.get disks number ≡ Some blocks → bay_at bays number ≢ missing
  pub set : (number : ℕ) → number < 8 → bay_at bays number ≢ missing → IsSome (finite.get disks number)
  pub swap : 0 < slots → bay_at bays 8 ≢ missing
  pub unused : slots ≡ 0 → bay_at bays 8 ≡ missing
  pub sizes : (number : ℕ) (d : DiskSeen) → bay_at bays number ≡ home d → HasSize disks slots number d.size
