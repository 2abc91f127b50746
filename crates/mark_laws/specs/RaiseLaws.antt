-- How marks rise before a Sync answers. Public clauses cite this.
use Rattle.std.specs.Prelude.{◌≡◌, ◌≢◌, ℕ, List, length, Some}
use Rattle.flat_model.specs.vm_types.declared.call.Entry.{Entry}
use Rattle.flat_model.specs.Flat.{Flat}
use Rattle.flat_model.specs.History.{replay, Legal}
use Rattle.page_store.specs.core_arena.Bytes.{zeros}
use Rattle.page_store.specs.page_hash.declared.PageName.{PageName}
use Rattle.page_store.specs.Bytes.{clip}
use Rattle.page_store.specs.Notes.{Notes}
use Rattle.disk_marks.specs.Marks.{MarksSeen, push_of}
use Rattle.disk_marks.specs.declared.marks.Pushing.{Pushing}
use Rattle.disk_marks.specs.Changes.{marks_raised, marks_emptied}
use Rattle.mark_laws.specs.Pages.{bytes_there, page_there, disk_place, HavePlacesApart}
use Rattle.mark_laws.specs.MarksFit.{DiskContents, OfBlock, IsBeingWritten, MarksFit, pushed_page}

-- The mark of a page rises to the history's length: of one that isn't being written and whose block has it, and of one that is zeros; no push of that is kept.
pub record RaisesLaw : Type 0 where
  pub held : (opening : Flat) (H : List Entry) (contents : DiskContents) (notes : Notes) (m : MarksSeen) (name : PageName) (disk block : ℕ)
      → MarksFit opening H contents notes m → Legal opening H → HavePlacesApart (replay opening H)
      → disk_place (replay opening H) name ≡ Some (disk, block) → ¬ IsBeingWritten notes name
      → OfBlock contents disk block (λ bytes. clip (bytes_there (replay opening H) name) bytes ≡ page_there (replay opening H) name)
      → MarksFit opening H contents notes (marks_raised m disk block (length H))
  pub blank : (opening : Flat) (H : List Entry) (contents : DiskContents) (notes : Notes) (m : MarksSeen) (name : PageName) (disk block : ℕ)
      → MarksFit opening H contents notes m → Legal opening H → HavePlacesApart (replay opening H)
      → disk_place (replay opening H) name ≡ Some (disk, block)
      → page_there (replay opening H) name ≡ zeros
      → MarksFit opening H contents notes (marks_emptied m disk block name.object name.page (length H))
  pub still : (m : MarksSeen) (name : PageName) (disk block j seat : ℕ) (push : Pushing)
      → push_of (marks_emptied m disk block name.object name.page j) seat ≡ Some push → pushed_page push ≢ name
