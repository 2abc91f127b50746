-- What small changes of a file make up. Public clauses cite this.
use Rattle.std.specs.Prelude.{◌≡◌, ◌<◌, ◌≤◌, ◌+◌, ◌-◌, ◌%◌, ℕ, List, Some, length, replicate, slice_get}
use Rattle.seg_ops.specs.vnode_files.Files.{vnode_at, growth_of}
use Rattle.seg_ops.specs.vnode_files.declared.extent.Extent.{Extent}
use Rattle.seg_ops.specs.page_store.Notes.{Notes}
use Rattle.seg_ops.specs.vm_types.Pages.{bytes_before}
use Rattle.seg_ops.specs.flat_model.Flat.{File, IsFile}
use Rattle.seg_ops.specs.flat_model.GrownLaws.{zeros_between}
use Rattle.seg_ops.specs.flat_model.Parts.{longer_file, shorter_file, with_part, with_extents_of}
use Rattle.seg_ops.specs.flat_model.Shapes.{blank_file}
use Rattle.seg_ops.specs.flat_model.Words.{Page, page, page_size, pages_in}
use Rattle.seg_ops.specs.vm_world.FileSteps.{ChangesFile, file_seen}
use Rattle.seg_ops.specs.vm_world.FlatMemory.{Memory}
use Rattle.seg_ops.specs.vm_world.MemoryFits.{MemoryFits}
use Rattle.seg_ops.specs.vm_world.NotesFit.{NotesFit}
use Rattle.seg_ops.specs.vm_world.World.{AllTell}
use Rattle.seg_map.specs.Ends.{lengthened}
use Rattle.seg_map.specs.Puts.{with_bytes_in}
use Rattle.seg_map.specs.Voids.{with_page_void}

-- The zeros from a file's end to another end, as far as they lie in its last page.
abbrev pub gap_zeros : ℕ → ℕ → List ℕ
gap_zeros len n = replicate (bytes_before n (page len) - len % page_size) 0

-- A part is a file as long as its end needs it, with the part's bytes in their page. A file gets longer as zeros come behind its end in the last page, and
-- then pages of zeros; where that page has zeros there already, as where it is blank, and where it has no tail, the pages alone. And a file that gets shorter
-- may first lose what lies past its end.
pub record WholesLaw : Type 0 where
  pub part : (file : File) (offset : ℕ) (line : List ℕ) → IsFile file → offset % page_size + length line ≤ page_size
      → with_bytes_in (page offset) (offset % page_size) line (longer_file (offset + length line) file) ≡ with_part offset line file
  pub longer : (extents : List Extent) (n : ℕ) (file : File) → IsFile file → file.len ≤ n
      → ((old : Page) → slice_get file.pages (page file.len) ≡ Some old → zeros_between (bytes_before file.len (page file.len)) (bytes_before n (page file.len)) old ≡ old)
      → lengthened extents n file ≡ longer_file n (with_extents_of extents file)
  pub gap : (extents : List Extent) (n : ℕ) (file : File) → IsFile file → file.len ≤ n
      → lengthened extents n (with_bytes_in (page file.len) (file.len % page_size) (gap_zeros file.len n) file) ≡ longer_file n (with_extents_of extents file)
  pub void : (n i : ℕ) (file : File) → IsFile file → pages_in n ≤ i → shorter_file n (with_page_void i file) ≡ shorter_file n file
  -- A change that is said by one function of the file may be said by another that gives the same, and the same but for bytes whatever disks tell.
  pub same : (f : ℕ) (u v : Memory) (g h : File → File) → ((notes : Notes) → NotesFit u.world notes → AllTell u.world notes → IsFile (file_seen u.world notes f) → g (file_seen u.world notes f) ≡ h (file_seen u.world notes f))
      → ((notes : Notes) (file : File) → blank_file file ≡ blank_file (file_seen u.world notes f) → blank_file (h file) ≡ blank_file (g file))
      → ChangesFile f u v g → ChangesFile f u v h
  pub short : (n : ℕ) (file : File) → IsFile file → n ≤ file.len → longer_file n file ≡ file

-- A part that lies below the file's length puts its bytes. One that makes the file longer makes it longer first; then its page may come home; and then it puts
-- its bytes. Each is what flat memory says of a part.
pub record PartLaw : Type 0 where
  pub within : (f offset : ℕ) (line : List ℕ) (extents : List Extent) (u v : Memory) → MemoryFits u → f < length u.world.files.files → offset % page_size + length line ≤ page_size
      → offset + length line ≤ (vnode_at u.world.files f).info.length → growth_of u.world.files f (pages_in (offset + length line)) ≡ Some extents
      → ChangesFile f u v (with_bytes_in (page offset) (offset % page_size) line) → ChangesFile f u v (λ file. with_part offset line (with_extents_of extents file))
  pub grows : (f offset : ℕ) (line : List ℕ) (extents : List Extent) (u v w x : Memory) → f < length u.world.files.files → offset % page_size + length line ≤ page_size
      → ChangesFile f u v (λ file. longer_file (offset + length line) (with_extents_of extents file)) → ChangesFile f v w (λ file. file)
      → ChangesFile f w x (with_bytes_in (page offset) (offset % page_size) line) → ChangesFile f u x (λ file. with_part offset line (with_extents_of extents file))
