-- Marks as an entry is made. Public clauses cite this.
use Rattle.std.specs.Prelude.{◌≡◌, ◌≢◌, ◌++◌, ℕ, suc, [], ◌∷◌, List, length, Some}
use Rattle.flat_model.specs.vm_types.declared.call.Entry.{Entry}
use Rattle.flat_model.specs.vm_types.declared.call.Reply.TheVariants.{Synced}
use Rattle.flat_model.specs.Flat.{Flat}
use Rattle.flat_model.specs.History.{replay, Legal}
use Rattle.page_store.specs.page_hash.declared.PageName.{PageName}
use Rattle.page_store.specs.Notes.{Notes}
use Rattle.disk_marks.specs.declared.marks.Pushing.{Pushing}
use Rattle.disk_marks.specs.Marks.{MarksSeen, mark_row, push_of}
use Rattle.mark_laws.specs.Cuts.{CutsFile, marks_shortened}
use Rattle.mark_laws.specs.Pages.{disk_place, HavePlacesApart}
use Rattle.mark_laws.specs.Syncs.{HasSynced, ReachesDisk}
use Rattle.mark_laws.specs.MarksFit.{DiskContents, MarksFit, pushed_page}

-- The marks reach the disk that a Sync answers for which is the next entry: of each page that it covers the mark does, and no push of it is out.
pub record ReachesNext (opening : Flat) (H : List Entry) (e : Entry) (m : MarksSeen) (b : ℕ) (name : PageName) : Type 0 where
  pub marks : (disk block : ℕ) → disk_place (replay opening H) name ≡ Some (disk, block) → ReachesDisk (length H) b (mark_row m disk block).mark
  pub still : (seat : ℕ) (push : Pushing) → push_of m seat ≡ Some push → pushed_page push ≢ name

-- MARKS STAY TRUE as an entry is made. They are as they were: with a Sync that answers, where the marks of its pages reach that far; and with any other
-- entry that makes no file shorter, so also where a file gets longer. With an entry that makes a file shorter, the marks of that file's pages change.
pub record EntriesLaw : Type 0 where
  pub syncs : (opening : Flat) (H : List Entry) (e : Entry) (contents : DiskContents) (notes : Notes) (m : MarksSeen)
      → MarksFit opening H contents notes m → ¬ CutsFile (replay opening H) e
      → ((b : ℕ) (name : PageName) → HasSynced opening (H ++ e ∷ []) (length H) b name → ReachesNext opening H e m b name)
      → MarksFit opening (H ++ e ∷ []) contents notes m
  pub plain : (opening : Flat) (H : List Entry) (e : Entry) (contents : DiskContents) (notes : Notes) (m : MarksSeen)
      → MarksFit opening H contents notes m → ¬ CutsFile (replay opening H) e → ((b : ℕ) → e.reply ≢ Synced b)
      → MarksFit opening (H ++ e ∷ []) contents notes m
  pub cuts : (opening : Flat) (H : List Entry) (e : Entry) (contents : DiskContents) (notes : Notes) (m : MarksSeen)
      → MarksFit opening H contents notes m → Legal opening H → HavePlacesApart (replay opening H) → (c : CutsFile (replay opening H) e)
      → MarksFit opening (H ++ e ∷ []) contents notes (marks_shortened m c.f c.old.disk c.old.extents c.old.len c.new.len (suc (length H)))
