-- How events leave blocks: each is as it was, or has its page, but for those of which a write failed. Public clauses cite this.
use Rattle.std.specs.Prelude.{◌≡◌, ◌≢◌, ◌⊎◌, ◌<◌, ◌≤◌, ◌+◌, ◌++◌, min, ℕ, List, length, Option, Some}
use Rattle.std.specs.List.{Contains}
use Rattle.flat_model.specs.vm_types.declared.call.Entry.{Entry}
use Rattle.flat_model.specs.Counted.{top_count}
use Rattle.flat_model.specs.Flat.{Flat}
use Rattle.flat_model.specs.History.{replay}
use Rattle.page_store.specs.page_hash.declared.PageName.{PageName}
use Rattle.page_store.specs.Bays.{block_of}
use Rattle.page_store.specs.Flight.{FlightSeen, IsPerformed}
use Rattle.page_store.specs.Notes.{Note, Notes, no_notes}
use Rattle.disk_marks.specs.declared.marks.Mark.TheVariants.{Unsure}
use Rattle.disk_marks.specs.Marks.{MarksSeen, mark_row}
use Rattle.disk_marks.specs.Changes.{marks_begun, marks_raised, marks_emptied}
use Rattle.mark_laws.specs.Cuts.{marks_cut}
use Rattle.mark_laws.specs.FailureLaws.{CountOn}
use Rattle.mark_laws.specs.HeldBlocks.{HoldsHistory}
use Rattle.mark_laws.specs.MarkLaws.{marks_by}
use Rattle.mark_laws.specs.MarksFit.{DiskContents, PushesFile, MarksFit}
use Rattle.mark_laws.specs.Pages.{ArePageOf, disk_place}

-- What is seen of a state: its history, what the disks have, wherever they are, how many faults they counted, and the marks.
pub record Moment : Type 0 where
  pub history : List Entry
  pub contents : DiskContents
  pub faults : ℕ → Option ℕ
  pub marks : MarksSeen

-- The last write of the block failed, by its mark.
abbrev pub IsUnsure : MarksSeen → ℕ → ℕ → Type 0
IsUnsure m disk block = (j : ℕ) × (before : ℕ) × (after : ℕ) × ((mark_row m disk block).mark ≡ Unsure j before after)

-- The block is that of a page which a file keeps there, and has it.
abbrev pub HasItsPage : Flat → Moment → ℕ → ℕ → Type 0
HasItsPage F t disk block =
    (name : PageName) × (disk_place (replay F t.history) name ≡ Some (disk, block)) × ArePageOf F t.history name (block_of (t.contents disk) block)

-- EACH BLOCK of a disk of files IS ACCOUNTED FOR from one moment to another: but for some blocks that files keep for pages, of a disk no more than it counted
-- faults meanwhile, each is as it was, or has the page that a file keeps there; and of no other block a write failed since. No count of such a disk fell.
pub record AccountsFor (F : Flat) (s t : Moment) : Type 0 where
  pub grown : (added : List Entry) × (t.history ≡ s.history ++ added)
  pub counts : (disk before : ℕ) → disk < 8 → s.faults disk ≡ Some before → (after : ℕ) × (t.faults disk ≡ Some after) × (before ≤ after)
  pub failed : ℕ → List ℕ
  pub few : (disk before after : ℕ) → disk < 8 → s.faults disk ≡ Some before → t.faults disk ≡ Some after
      → min (length (failed disk) + before) top_count ≤ after
  pub kept : (disk block : ℕ) → Contains (failed disk) block → (name : PageName) × (disk_place (replay F t.history) name ≡ Some (disk, block))
  pub each : (disk block : ℕ) → disk < 8 → ¬ Contains (failed disk) block
      → (block_of (t.contents disk) block ≡ block_of (s.contents disk) block) ⊎ HasItsPage F t disk block
  pub unsure : (disk block : ℕ) → IsUnsure t.marks disk block → Contains (failed disk) block ⊎ IsUnsure s.marks disk block

-- A push of a file's page that was out came back: its disk has what the transfer left, and counted what it counted; no other disk changed.
pub record PushCameBack (note : Note) (f : FlightSeen) (old new : DiskContents) (before after : ℕ → Option ℕ) : Type 0 where
  pub performed : IsPerformed note f
  pub was : old note.number ≡ note.disk.content
  pub is : new note.number ≡ f.disk.content
  pub others : (disk : ℕ) → disk ≢ note.number → new disk ≡ old disk
  pub had : before note.number ≡ Some note.disk.faults
  pub has : after note.number ≡ Some f.disk.faults
  pub counts : (disk : ℕ) → disk ≢ note.number → after disk ≡ before disk

-- No mark tells of a failure that didn't.
abbrev pub TellsNoMore : MarksSeen → MarksSeen → Type 0
TellsNoMore m n = (disk block : ℕ) → IsUnsure n disk block → IsUnsure m disk block

-- BLOCKS ARE ACCOUNTED FOR as a push of a file's page ends, however it went, and whether its page was taken away meanwhile or not; along events; and so a
-- disk holds the history.
pub record AccountsLaw : Type 0 where
  pub ends : (opening : Flat) (H : List Entry) (old new : DiskContents) (before after : ℕ → Option ℕ) (notes : Notes) (m : MarksSeen) (seat : ℕ) (note : Note) (f : FlightSeen)
      → MarksFit opening H old notes m → notes seat ≡ Some note → PushesFile note → PushCameBack note f old new before after
      → AccountsFor opening (record { history = H; contents = old; faults = before; marks = m })
      (record { history = H; contents = new; faults = after; marks = marks_by m seat note (length H) f f.outcome })
  -- Nothing happened to blocks of files' disks and to marks of failures, though entries may have been made, and faults counted.
  pub still : (F : Flat) (s t : Moment) → (added : List Entry) → t.history ≡ s.history ++ added
      → ((disk block : ℕ) → disk < 8 → block_of (t.contents disk) block ≡ block_of (s.contents disk) block) → CountOn s.faults t.faults
      → ((disk block : ℕ) → IsUnsure t.marks disk block → IsUnsure s.marks disk block) → AccountsFor F s t
  pub and_then : (F : Flat) (s t u : Moment) → AccountsFor F s t → AccountsFor F t u → AccountsFor F s u
  -- What is left of a disk, once nothing is out.
  pub leaves : (F : Flat) (s t : Moment) (number before faults : ℕ) (given now : List (List ℕ)) → AccountsFor F s t → MarksFit F t.history t.contents no_notes t.marks
      → number < 8 → s.faults number ≡ Some before → t.faults number ≡ Some faults → ((block : ℕ) → ¬ IsUnsure s.marks number block)
      → s.contents number ≡ Some given → t.contents number ≡ Some now → HoldsHistory F t.history number faults given now
  -- No mark tells of a failure that didn't, as a push begins, as a mark rises, and as a file is cut.
  pub begins : (m : MarksSeen) (seat file page from : ℕ) → TellsNoMore m (marks_begun m seat file page from)
  pub raised : (m : MarksSeen) (disk block j : ℕ) → TellsNoMore m (marks_raised m disk block j)
  pub emptied : (m : MarksSeen) (disk block file page j : ℕ) → TellsNoMore m (marks_emptied m disk block file page j)
  pub cut : (m : MarksSeen) (f disk pages j : ℕ) (blocks : List ℕ) → TellsNoMore m (marks_cut m f disk pages j blocks)
