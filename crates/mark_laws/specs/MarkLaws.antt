-- How transfers keep marks true. Public clauses cite this.
use Rattle.std.specs.Prelude.{◌≡◌, ◌≢◌, ◌<◌, ℕ, true, List, length, Some, None, is_some}
use Rattle.flat_model.specs.vm_types.declared.call.Entry.{Entry}
use Rattle.flat_model.specs.Flat.{Flat}
use Rattle.flat_model.specs.History.{replay, Legal}
use Rattle.page_store.specs.page_hash.declared.PageName.{PageName}
use Rattle.page_store.specs.Bays.{block_of}
use Rattle.page_store.specs.Bytes.{clip}
use Rattle.page_store.specs.Flight.{FlightSeen, Progress, fresh, done, failed, IsPerformed}
use Rattle.page_store.specs.Notes.{Note, Notes, with_note}
use Rattle.disk_marks.specs.Marks.{MarksSeen}
use Rattle.disk_marks.specs.Changes.{marks_begun, marks_written, marks_spoiled}
use Rattle.mark_laws.specs.Pages.{bytes_there, page_there, disk_place, HavePlacesApart}
use Rattle.mark_laws.specs.MarksFit.{DiskContents, PushesFile, MarksFit}

-- A push of a file's page sends it as it is in flat memory, to its place; the page lies before the file's end.
pub record SendsPage (F : Flat) (note : Note) : Type 0 where
  pub pushes : PushesFile note
  pub place : disk_place F note.name ≡ Some (note.number, note.block)
  pub inside : 0 < bytes_there F note.name
  pub valid : note.valid ≡ bytes_there F note.name
  pub page : clip note.valid note.bytes ≡ page_there F note.name

-- The disks tell as before, and each block that has a page is as it was, but for that of the page which the note writes.
pub record LeavesBlocks (F : Flat) (note : Note) (old new : DiskContents) : Type 0 where
  pub tells : (disk : ℕ) → is_some (new disk) ≡ is_some (old disk)
  pub others : (name : PageName) (disk block : ℕ) → disk_place F name ≡ Some (disk, block) → (note.writes ≡ true → name ≢ note.name)
      → block_of (new disk) block ≡ block_of (old disk) block

-- The note of no other seat has the disk.
abbrev pub HasAlone : Notes → ℕ → Note → Type 0
HasAlone notes seat note = (k : ℕ) (other : Note) → notes k ≡ Some other → k ≢ seat → other.number ≢ note.number

-- The marks as a push of a file's page ends, by how it went, and after so many entries.
abbrev pub marks_by : MarksSeen → ℕ → Note → ℕ → FlightSeen → Progress → MarksSeen
marks_by m seat note j f fresh = m
marks_by m seat note j f done = marks_written m seat note.number note.block
marks_by m seat note j f failed = marks_spoiled m seat note.number note.block j f.before f.disk.faults

-- MARKS STAY TRUE as a transfer begins and as it ends: a push of a file's page, and any other transfer.
pub record MarksLaw : Type 0 where
  pub begins : (opening : Flat) (H : List Entry) (contents : DiskContents) (notes : Notes) (m : MarksSeen) (seat : ℕ) (note : Note)
      → MarksFit opening H contents notes m → notes seat ≡ None → seat < length m.pushes → SendsPage (replay opening H) note
      → MarksFit opening H contents (with_note notes seat (Some note)) (marks_begun m seat note.name.object note.name.page (length H))
  pub leaves : (opening : Flat) (H : List Entry) (contents : DiskContents) (notes : Notes) (m : MarksSeen) (seat : ℕ) (note : Note)
      → MarksFit opening H contents notes m → notes seat ≡ None → ¬ PushesFile note
      → MarksFit opening H contents (with_note notes seat (Some note)) m
  pub ends : (opening : Flat) (H : List Entry) (old new : DiskContents) (notes : Notes) (m : MarksSeen) (seat : ℕ) (note : Note) (f : FlightSeen)
      → MarksFit opening H old notes m → Legal opening H → HavePlacesApart (replay opening H)
      → notes seat ≡ Some note → HasAlone notes seat note → PushesFile note → length note.bytes ≡ 4096
      → IsPerformed note f → LeavesBlocks (replay opening H) note old new → new note.number ≡ f.disk.content
      → MarksFit opening H new (with_note notes seat None) (marks_by m seat note (length H) f f.outcome)
  pub returns : (opening : Flat) (H : List Entry) (old new : DiskContents) (notes : Notes) (m : MarksSeen) (seat : ℕ) (note : Note)
      → MarksFit opening H old notes m → notes seat ≡ Some note → ¬ PushesFile note → LeavesBlocks (replay opening H) note old new
      → ((name : PageName) (disk block : ℕ) → disk_place (replay opening H) name ≡ Some (disk, block) → name.object ≢ 64)
      → MarksFit opening H new (with_note notes seat None) m
