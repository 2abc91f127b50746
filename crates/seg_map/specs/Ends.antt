-- A file gets another end: its length, the extents that it needs for it, and which of its pages are blank. Public clauses cite this.
use Rattle.std.specs.Prelude.{◌≡◌, ◌≢◌, ◌⊎◌, ◌<◌, ◌≤◌, ◌-◌, ◌*◌, ◌++◌, min, ℕ, true, List, Some, None, length, replicate}
use Rattle.seg_ops.specs.core_arena.Bytes.{bytes_at}
use Rattle.seg_ops.specs.page_hash.Names.{name_at, find}
use Rattle.seg_ops.specs.page_hash.declared.PageName.{PageName}
use Rattle.seg_ops.specs.page_lock.Rows.{row_at}
use Rattle.seg_ops.specs.page_store.Bytes.{clip}
use Rattle.seg_ops.specs.page_store.Seen.{IsListedFrame, residence}
use Rattle.seg_ops.specs.page_store.declared.residence.Residence.TheVariants.{Home}
use Rattle.seg_ops.specs.vnode_files.Files.{FilesSeen, vnode_at}
use Rattle.seg_ops.specs.vnode_files.Grow.{page_count}
use Rattle.seg_ops.specs.vnode_files.Layout.{KeepsLayout}
use Rattle.seg_ops.specs.vnode_files.Vnode.{IsSoundVnode, block_at, is_blank}
use Rattle.seg_ops.specs.vnode_files.declared.extent.Extent.{Extent}
use Rattle.seg_ops.specs.flat_model.Flat.{File}
use Rattle.seg_ops.specs.flat_model.Parts.{shorter_file, with_extents_of}
use Rattle.seg_ops.specs.flat_model.Words.{page_size, pages_in, zero_page}
use Rattle.seg_ops.specs.vm_world.FileSteps.{ChangesFile}
use Rattle.seg_ops.specs.vm_world.FlatMemory.{Memory}
use Rattle.seg_ops.specs.vm_world.MemoryFits.{MemoryFits}
use Rattle.seg_ops.specs.vm_world.State.{mode_of}
use Rattle.seg_ops.specs.vm_world.World.{World, file_name}

-- How many bytes of a page are valid, in a file of so many bytes.
abbrev pub valid_in : ℕ → ℕ → ℕ
valid_in length i = min (length - i * page_size) page_size

-- One file has this many bytes, on extents that keep its old pages where they were. The pages that it has before and after are blank where they were, and
-- those that it comes to have are blank.
pub record SetsEnd (old new : FilesSeen) (f n : ℕ) (extents : List Extent) : Type 0 where
  pub there : f < length old.files
  pub disks : new.disks ≡ old.disks
  pub count : length new.files ≡ length old.files
  pub others : (k : ℕ) → k ≢ f → vnode_at new k ≡ vnode_at old k
  pub mode : mode_of (vnode_at new f) ≡ mode_of (vnode_at old f)
  pub length_is : (vnode_at new f).info.length ≡ n
  pub extents_are : (vnode_at new f).info.extents ≡ extents
  pub sound : IsSoundVnode (vnode_at new f)
  pub layout : KeepsLayout old new
  pub more : page_count (vnode_at old f).info.extents ≤ page_count extents
  pub blocks : (i : ℕ) → i < page_count (vnode_at old f).info.extents → block_at extents i ≡ block_at (vnode_at old f).info.extents i
  pub some : 1 ≤ length extents
  pub old_blanks : (i : ℕ) → i < pages_in (vnode_at old f).info.length → i < pages_in n → is_blank (vnode_at new f) i ≡ is_blank (vnode_at old f) i
  pub new_blanks : (i : ℕ) → pages_in (vnode_at old f).info.length ≤ i → i < pages_in n → is_blank (vnode_at new f) i ≡ true

-- The page is home in a frame on no list, and modified, also as its snapshot sees it; and past so many bytes it is zeros, where that is said.
pub record IsReadyPage (w : World) (name : PageName) : Type 0 where
  pub frame : ℕ
  pub home : residence w.store name ≡ Home frame
  pub unlisted : ¬ IsListedFrame w.store frame
  pub modified : (row_at w.store.rows frame).modified ≡ true
  pub rewritten : (row_at w.store.rows frame).rewritten ≡ true

-- A file may get another end: no frame holds a page past it; and the last page whose valid bytes change is ready, or no frame holds it, and it is
-- blank where the file gets longer. A page that is home has zeros past the new end where the file gets shorter.
pub record MaySetEnd (w : World) (f n : ℕ) : Type 0 where
  pub below : (frame : ℕ) (name : PageName) → name_at w.store.names frame ≡ Some name → name.object ≡ f → name.page < pages_in n
  pub last : (i : ℕ) → i < pages_in (vnode_at w.files f).info.length → i < pages_in n → valid_in n i ≢ valid_in (vnode_at w.files f).info.length i
      → IsReadyPage w (file_name f i) ⊎ ((find w.store.names (file_name f i) ≡ None) × ((is_blank (vnode_at w.files f) i ≡ true) ⊎ (n < (vnode_at w.files f).info.length)))
  pub tail : (i frame : ℕ) (bytes : List ℕ) → n < (vnode_at w.files f).info.length → residence w.store (file_name f i) ≡ Home frame → bytes_at w.store.frames frame ≡ Some bytes
      → clip (valid_in n i) bytes ≡ bytes

-- A file with these extents and at least as many bytes: as many pages of zeros more as these take.
abbrev pub lengthened : List Extent → ℕ → File → File
lengthened extents n file = record file { len = n; extents = extents; pages = file.pages ++ replicate (pages_in n - length file.pages) zero_page }

-- Memory with these records of files.
abbrev pub with_file_records : Memory → FilesSeen → Memory
with_file_records m files = record m { world = record m.world { files = files } }

-- A file that may get another end gets it with its record: it is longer by pages of zeros, or
-- shorter, as flat memory says.
pub record EndsLaw : Type 0 where
  pub longer : (m : Memory) (files : FilesSeen) (f n : ℕ) (extents : List Extent) → MemoryFits m → SetsEnd m.world.files files f n extents → MaySetEnd m.world f n → (vnode_at m.world.files f).info.length ≤ n
      → ChangesFile f m (with_file_records m files) (lengthened extents n)
  pub shorter : (m : Memory) (files : FilesSeen) (f n : ℕ) (extents : List Extent) → MemoryFits m → SetsEnd m.world.files files f n extents → MaySetEnd m.world f n → n < (vnode_at m.world.files f).info.length
      → ChangesFile f m (with_file_records m files) (λ file. shorter_file n (with_extents_of extents file))
