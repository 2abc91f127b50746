-- Where a step leaves the blocks and the ends of the files. Public clauses cite this.
use Rattle.std.specs.Prelude.{ℕ, ◌≡◌, ◌≢◌, ◌≤◌, ◌<◌, ◌==◌, Bool, false, length, Some, None, IsSomeAnd, IsFalse, slice_get}
use Rattle.flat_model.specs.vm_types.Pages.{pages_in}
use Rattle.flat_model.specs.vm_types.declared.call.Call.{Call}
use Rattle.flat_model.specs.vm_types.declared.call.Call.TheVariants.{Truncate}
use Rattle.flat_model.specs.vm_types.declared.call.Entry.{Entry}
use Rattle.flat_model.specs.vm_types.Parts.{file_of_call}
use Rattle.flat_model.specs.vnode_files.Files.{block_count}
use Rattle.flat_model.specs.vnode_files.Vnode.{page_blocks}
use Rattle.flat_model.specs.Flat.{File, Flat}
use Rattle.flat_model.specs.Step.{step}
use Rattle.page_store.specs.page_hash.declared.PageName.{PageName}
use Rattle.mark_laws.specs.Pages.{disk_place}

-- The file is as long as before, and keeps the same blocks.
pub record KeepsSize (old new : File) : Type 0 where
  pub len : new.len ≡ old.len
  pub disk : new.disk ≡ old.disk
  pub extents : new.extents ≡ old.extents

-- Each page that the file kept has its block as before; others may have come.
pub record KeepsOldBlocks (old new : File) : Type 0 where
  pub disk : new.disk ≡ old.disk
  pub blocks : (page block : ℕ) → slice_get (page_blocks old.extents) page ≡ Some block → slice_get (page_blocks new.extents) page ≡ Some block

-- The call may make the file shorter: a Truncate of it.
abbrev pub is_cut_of : ℕ → Call → Bool
is_cut_of f (Truncate file len) = file == f
is_cut_of f call = false

-- A file keeps a block for each of its pages, and for each page that its length takes.
pub record KeepsPageBlocks (file : File) : Type 0 where
  pub pages : length file.pages ≤ length (page_blocks file.extents)
  pub len : pages_in file.len ≤ length (page_blocks file.extents)

-- Each file keeps a block for each of its pages, and for each page that its length takes.
abbrev pub HaveBlocks : Flat → Type 0
HaveBlocks F = (f : ℕ) (file : File) → slice_get F.files f ≡ Some file → KeepsPageBlocks file

-- A block of a disk that no page of a file has.
pub record IsFreeBlock (F : Flat) (disk block : ℕ) : Type 0 where
  pub within : block < block_count F.disks disk
  pub free : (name : PageName) → disk_place F name ≢ Some (disk, block)

-- G is what the entry leaves of the files of F, as far as it leaves them. The disks stay, and as many files are there. One that the call isn't of keeps its size;
-- each keeps its blocks; and each that isn't cut is no shorter than before. A page that came to be kept has a block that was free.
pub record StepFiles (F : Flat) (e : Entry) (G : Flat) : Type 0 where
  pub disks : G.disks ≡ F.disks
  pub count : length G.files ≡ length F.files
  pub sizes : (f : ℕ) (file : File) → slice_get F.files f ≡ Some file → file_of_call e.call ≢ Some f → IsSomeAnd (slice_get G.files f) (KeepsSize file)
  pub blocks : (f : ℕ) (file : File) → slice_get F.files f ≡ Some file → IsSomeAnd (slice_get G.files f) (KeepsOldBlocks file)
  pub longer : (f : ℕ) (file : File) → slice_get F.files f ≡ Some file → IsFalse (is_cut_of f e.call) → IsSomeAnd (slice_get G.files f) (λ new. file.len ≤ new.len)
  pub fresh : (name : PageName) (disk block : ℕ) → disk_place F name ≡ None → disk_place G name ≡ Some (disk, block) → IsFreeBlock F disk block

-- Every step leaves files as StepFiles says, and files with blocks for their pages have them then.
pub record FilesStay : Type 0 where
  pub files : (F : Flat) (e : Entry) → StepFiles F e (step F e)
  pub kept : (F : Flat) (e : Entry) → HaveBlocks F → HaveBlocks (step F e)
