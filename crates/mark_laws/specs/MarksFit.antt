-- When marks are true. Public clauses cite this.
use Rattle.std.specs.Prelude.{◌≡◌, ◌≢◌, ◌⊎◌, ◌<◌, ◌≤◌, ℕ, true, false, List, [], length, Option, Some, None, IfSome, slice_index_or}
use Rattle.flat_model.specs.vm_types.declared.call.Entry.{Entry}
use Rattle.flat_model.specs.Counted.{top_count}
use Rattle.flat_model.specs.Flat.{Flat}
use Rattle.flat_model.specs.History.{replay}
use Rattle.flat_model.specs.vnode_files.Files.{block_count}
use Rattle.page_store.specs.core_arena.Bytes.{zeros}
use Rattle.page_store.specs.page_hash.declared.PageName.{PageName}
use Rattle.page_store.specs.Bytes.{clip}
use Rattle.page_store.specs.Notes.{Note, Notes}
use Rattle.disk_marks.specs.declared.marks.Mark.TheVariants.{Held, Blank, Unsure}
use Rattle.disk_marks.specs.declared.marks.MarkRow.{MarkRow}
use Rattle.disk_marks.specs.declared.marks.Pushing.{Pushing}
use Rattle.disk_marks.specs.Marks.{MarksSeen, HasRow, unused_row, mark_row, push_of}
use Rattle.mark_laws.specs.FileLaws.{HaveBlocks}
use Rattle.mark_laws.specs.Pages.{after_first, bytes_there, page_there, disk_place, HasPage, ArePageOf}
use Rattle.mark_laws.specs.Syncs.{entries_in, HasSynced, ReachesDisk}

-- What the disks have by number, wherever they are; none where a disk isn't there or doesn't tell.
abbrev pub DiskContents : Type 0
DiskContents = ℕ → Option (List (List ℕ))

-- Something holds of the block of a disk, where the disk tells.
abbrev pub OfBlock : DiskContents → ℕ → ℕ → (List ℕ → Type 0) → Type 0
OfBlock contents disk block P = IfSome (contents disk) (λ blocks. P (slice_index_or blocks block []))

-- The page that a push is of.
abbrev pub pushed_page : Pushing → PageName
pushed_page push = record { object = push.file; page = push.page }

-- The transfer writes the page of a file.
pub record PushesFile (note : Note) : Type 0 where
  pub writes : note.writes ≡ true
  pub far : note.name.object ≢ 64

-- The push that is kept of a seat is out: the seat's note writes its page.
pub record IsOutWith (notes : Notes) (seat : ℕ) (push : Pushing) : Type 0 where
  pub note : Note
  pub there : notes seat ≡ Some note
  pub pushes : PushesFile note
  pub name : note.name ≡ pushed_page push

-- A seat's note writes the page.
abbrev pub IsBeingWritten : Notes → PageName → Type 0
IsBeingWritten notes name = (seat : ℕ) × (note : Note) × (notes seat ≡ Some note) × (note.writes ≡ true) × (note.name ≡ name)

-- What a row says of its block, which isn't being written: where the mark is Held, it has the page as it was then; and where the row says so, zeros stand
-- past the file's end as it is now.
pub record BlockFits (opening : Flat) (H : List Entry) (name : PageName) (row : MarkRow) (block : List ℕ) : Type 0 where
  pub held : (j : ℕ) → row.mark ≡ Held j → HasPage (after_first opening H j) name row.pushed block
  pub zeros : row.pushed ≡ true → block ≡ clip (bytes_there (replay opening H) name) block

-- A push that is out: what it writes is the page as it was when it began, up to the file's end as it was then.
pub record IsSentPage (opening : Flat) (H : List Entry) (note : Note) (push : Pushing) : Type 0 where
  pub name : pushed_page push ≡ note.name
  pub early : push.from ≤ length H
  pub page : clip note.valid note.bytes ≡ page_there (after_first opening H push.from) note.name
  pub valid : note.valid ≡ bytes_there (after_first opening H push.from) note.name
  pub whole : push.whole ≡ true → note.valid ≤ bytes_there (replay opening H) note.name

-- A push whose page was taken away since spoils nothing that a row promises.
pub record IsDropped (row : MarkRow) : Type 0 where
  pub unheld : (j : ℕ) → row.mark ≢ Held j
  pub unpushed : row.pushed ≡ false

-- A note that writes a file's page sends the seat's push; with none, its row has nothing to spoil.
abbrev pub SentFits : Flat → List Entry → MarkRow → Note → Option Pushing → Type 0
SentFits opening H row note (Some push) = IsSentPage opening H note push
SentFits opening H row note None = IsDropped row

-- THE MARKS FIT an opening, the history, what the disks have, and the notes. Files had blocks for their pages at the opening; each block of a disk has a row,
-- an unused one where no page of a file has it. The page of a file that has a place there has a row, whose mark names no entry
-- that wasn't made; but for a block that is being written, each block has what its row says; and a page that is Blank was zeros. A push of a file's page
-- goes to its place, and sends the page as it was when it began, unless it was taken away; what it writes is a page of the history in either case. Each push
-- that is kept is out, and its page lies before its file's end. And each Sync that answered reached the disk.
pub record MarksFit (opening : Flat) (H : List Entry) (contents : DiskContents) (notes : Notes) (m : MarksSeen) : Type 0 where
  pub kept : HaveBlocks opening
  pub rows : (disk block : ℕ) → block < block_count (replay opening H).disks disk → HasRow m disk block
  pub free : (disk block : ℕ) → ((name : PageName) → disk_place (replay opening H) name ≢ Some (disk, block)) → mark_row m disk block ≡ unused_row
  pub there : (name : PageName) (disk block : ℕ) → disk_place (replay opening H) name ≡ Some (disk, block) → HasRow m disk block
  pub early : (name : PageName) (disk block : ℕ) → disk_place (replay opening H) name ≡ Some (disk, block) → entries_in (mark_row m disk block).mark ≤ length H
  pub blocks : (name : PageName) (disk block : ℕ) → disk_place (replay opening H) name ≡ Some (disk, block) → ¬ IsBeingWritten notes name
      → OfBlock contents disk block (BlockFits opening H name (mark_row m disk block))
  pub blanks : (name : PageName) (disk block j : ℕ) → disk_place (replay opening H) name ≡ Some (disk, block) → (mark_row m disk block).mark ≡ Blank j
      → page_there (after_first opening H j) name ≡ zeros
  pub places : (seat : ℕ) (note : Note) → notes seat ≡ Some note → note.writes ≡ true → note.name.object ≢ 64
      → disk_place (replay opening H) note.name ≡ Some (note.number, note.block)
  pub sent : (seat : ℕ) (note : Note) → notes seat ≡ Some note → note.writes ≡ true → note.name.object ≢ 64
      → SentFits opening H (mark_row m note.number note.block) note (push_of m seat)
  pub origin : (seat : ℕ) (note : Note) → notes seat ≡ Some note → note.writes ≡ true → note.name.object ≢ 64
      → ArePageOf opening H note.name (clip note.valid note.bytes)
  pub out : (seat : ℕ) (push : Pushing) → push_of m seat ≡ Some push → IsOutWith notes seat push
  pub inside : (seat : ℕ) (push : Pushing) → push_of m seat ≡ Some push → 0 < bytes_there (replay opening H) (pushed_page push)
  pub synced : (k b : ℕ) (name : PageName) (disk block : ℕ) → HasSynced opening H k b name → disk_place (replay opening H) name ≡ Some (disk, block)
      → ReachesDisk k b (mark_row m disk block).mark
  pub later : (k b seat : ℕ) (name : PageName) (push : Pushing) → HasSynced opening H k b name → push_of m seat ≡ Some push → pushed_page push ≡ name
      → k < push.from

-- The counts that an Unsure mark names are of a failure, and its disk counted so many faults at least. The counts of the disks are given by number.
pub record FailureFits (faults : ℕ → Option ℕ) (disk before after : ℕ) : Type 0 where
  pub risen : (before < after) ⊎ ((before ≡ top_count) × (after ≡ top_count))
  pub count : ℕ
  pub counted : faults disk ≡ Some count
  pub enough : after ≤ count

-- The counts that each Unsure mark names are of a failure that its disk counted.
abbrev pub FailuresFit : (ℕ → Option ℕ) → MarksSeen → Type 0
FailuresFit faults m = (disk block j before after : ℕ) → (mark_row m disk block).mark ≡ Unsure j before after → FailureFits faults disk before after
