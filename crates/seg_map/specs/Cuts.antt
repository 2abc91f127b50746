-- What the steps of a Truncate make up. Public clauses cite this.
use Rattle.std.specs.Prelude.{◌≡◌, ◌<◌, ◌≤◌, ◌-◌, ◌%◌, ℕ, List, length, replicate}
use Rattle.seg_ops.specs.vnode_files.declared.extent.Extent.{Extent}
use Rattle.seg_ops.specs.vnode_files.Files.{vnode_at}
use Rattle.seg_ops.specs.flat_model.Flat.{File, IsFile}
use Rattle.seg_ops.specs.flat_model.Parts.{longer_file, shorter_file, file_of_length, with_extents_of}
use Rattle.seg_ops.specs.flat_model.Shapes.{blank_file}
use Rattle.seg_ops.specs.flat_model.Words.{page, page_size, pages_in}
use Rattle.seg_ops.specs.vm_world.FileSteps.{ChangesFile}
use Rattle.seg_ops.specs.vm_world.FlatMemory.{Memory}
use Rattle.seg_map.specs.Puts.{with_bytes_in}
use Rattle.seg_map.specs.Voids.{with_page_void}

-- A change of a file that only touches what lies past an end: the file that is cut there is the same; it differs in bytes alone from what it was; and it is well formed.
pub record IsPastEnd (n : ℕ) (g : File → File) : Type 0 where
  pub cut : (file : File) → IsFile file → shorter_file n (g file) ≡ shorter_file n file
  pub alike : (file : File) → blank_file (g file) ≡ blank_file file
  pub whole : (file : File) → IsFile file → IsFile (g file)

-- A page past an end may be given up, and zeros put behind the end in its page; and one such change comes after another. A file that loses what lies past a
-- nearer end, and then has that end, is as a Truncate leaves it; and so is one that gets longer.
pub record CutLaw : Type 0 where
  pub void : (n i : ℕ) → pages_in n ≤ i → IsPastEnd n (with_page_void i)
  pub tail : (n : ℕ) → IsPastEnd n (with_bytes_in (page n) (n % page_size) (replicate (page_size - n % page_size) 0))
  pub none : (n : ℕ) → IsPastEnd n (λ file. file)
  pub joined : (n : ℕ) (g h : File → File) → IsPastEnd n g → IsPastEnd n h → IsPastEnd n (λ file. h (g file))
  pub cuts : (f n : ℕ) (extents : List Extent) (u v w : Memory) (g : File → File) → f < length u.world.files.files → n < (vnode_at u.world.files f).info.length → IsPastEnd n g → ChangesFile f u v g
      → ChangesFile f v w (λ file. shorter_file n (with_extents_of extents file)) → ChangesFile f u w (λ file. file_of_length n (with_extents_of extents file))
  pub longer : (f n : ℕ) (extents : List Extent) (u v : Memory) → (vnode_at u.world.files f).info.length ≤ n → ChangesFile f u v (λ file. longer_file n (with_extents_of extents file))
      → ChangesFile f u v (λ file. file_of_length n (with_extents_of extents file))
