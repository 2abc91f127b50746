-- Files that get shorter, and what becomes of their marks. Public clauses cite this.
use Rattle.std.specs.Prelude.{◌≡◌, ◌<◌, ℕ, zero, suc, List, [], ◌∷◌, take, Some, slice_get}
use Rattle.flat_model.specs.vm_types.Pages.{pages_in}
use Rattle.flat_model.specs.vm_types.declared.call.Entry.{Entry}
use Rattle.flat_model.specs.vnode_files.declared.extent.Extent.{Extent}
use Rattle.flat_model.specs.vnode_files.Vnode.{page_blocks}
use Rattle.flat_model.specs.Flat.{File, Flat}
use Rattle.flat_model.specs.Step.{step}
use Rattle.disk_marks.specs.Marks.{MarksSeen}
use Rattle.disk_marks.specs.Changes.{marks_taken, marks_unpushed, pushes_cut}

-- The entry makes a file shorter.
pub record CutsFile (F : Flat) (e : Entry) : Type 0 where
  pub f : ℕ
  pub old : File
  pub new : File
  pub was : slice_get F.files f ≡ Some old
  pub now : slice_get (step F e).files f ≡ Some new
  pub less : new.len < old.len

-- The rows of a file's pages, by the blocks of its disk, once it keeps so many pages and there are so many entries: of each page that stays it isn't known
-- any more that zeros stand past the end; and each that is taken away is Blank.
abbrev pub rows_cut : ℕ → ℕ → ℕ → List ℕ → MarksSeen → MarksSeen
rows_cut disk pages j [] m = m
rows_cut disk zero j (block ∷ blocks) m = rows_cut disk zero j blocks (marks_taken m disk block j)
rows_cut disk (suc pages) j (block ∷ blocks) m = rows_cut disk pages j blocks (marks_unpushed m disk block)

-- The marks once the pages of a file, in these blocks of its disk, are cut to so many, and there are so many entries: a push of a page that is taken away is
-- none any more, and each other of the file's began before the cut.
abbrev pub marks_cut : MarksSeen → ℕ → ℕ → ℕ → ℕ → List ℕ → MarksSeen
marks_cut m f disk pages j blocks = pushes_cut (rows_cut disk pages j blocks m) f pages

-- The marks once a file on these extents of its disk has so many bytes, fewer than it had, and there are so many entries. Its pages are those that its old
-- length takes.
abbrev pub marks_shortened : MarksSeen → ℕ → ℕ → List Extent → ℕ → ℕ → ℕ → MarksSeen
marks_shortened m f disk extents old new j = marks_cut m f disk (pages_in new) j (take (pages_in old) (page_blocks extents))
