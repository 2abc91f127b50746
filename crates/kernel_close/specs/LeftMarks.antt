-- What marks say of the blocks of the disks that a kernel leaves as it is closed. Public clauses cite this.
use Rattle.std.specs.Prelude.{ℕ, ◌≡◌, ◌⊎◌, ◌≤◌, ◌==◌, true, List, [], ◌∷◌, length, Option, Some, None, IsSomeAnd, option_map, option_and_then, if◌then◌else◌}
use Rattle.seg_ops.specs.block_device.DiskSeen.{DiskSeen}
use Rattle.seg_ops.specs.block_device.declared.disk_fault.DiskFault.{DiskFault}
use Rattle.seg_ops.specs.page_store.Notes.{no_notes}
use Rattle.seg_ops.specs.flat_model.Flat.{Flat}
use Rattle.mark_laws.specs.disk_marks.declared.marks.Mark.TheVariants.{Held}
use Rattle.mark_laws.specs.disk_marks.declared.marks.MarkRow.{MarkRow}
use Rattle.mark_laws.specs.disk_marks.Marks.{MarksSeen, mark_row}
use Rattle.mark_laws.specs.disk_marks.Changes.{row_spoiled}
use Rattle.mark_laws.specs.MarksFit.{DiskContents, MarksFit, FailuresFit}
use Rattle.mark_laws.specs.Syncs.{entries_in}
use Rattle.mark_laws.specs.AccountLaws.{Moment, AccountsFor}
use Rattle.seg_ops.specs.vm_world.Events.{moment_of}
use Rattle.seg_ops.specs.vm_world.State.{KernelState}

-- The disk of a number among these; none where there is no such disk.
abbrev pub disk_by_number : List (ℕ × DiskSeen) → ℕ → Option DiskSeen
disk_by_number [] number = None
disk_by_number (disk ∷ more) number = if disk.0 == number then Some disk.1 else disk_by_number more number

-- What these disks have, by number.
abbrev pub contents_by_number : List (ℕ × DiskSeen) → DiskContents
contents_by_number disks number = option_and_then (λ (disk : DiskSeen). disk.content) (disk_by_number disks number)

-- How many faults these disks counted, by number.
abbrev pub faults_by_number : List (ℕ × DiskSeen) → ℕ → Option ℕ
faults_by_number disks number = option_map (λ (disk : DiskSeen). disk.faults) (disk_by_number disks number)

-- The row of a block as it is left, after so many entries: it stays; or the block has its page as it is then, with zeros after the file's end; or it is the
-- block of which the transfer failed.
abbrev pub IsRowLeft : ℕ → Option DiskFault → ℕ → ℕ → ℕ → MarkRow → MarkRow → Type 0
IsRowLeft entries fault spoiled disk block was now =
    (now ≡ was)
    ⊎ (now ≡ record { mark = Held entries; pushed = true })
    ⊎ IsSomeAnd fault (λ f. (f.disk ≡ disk) × (spoiled ≡ block) × (now ≡ row_spoiled entries f.before f.after))

-- What is seen of a kernel that was closed: its history, these disks and the marks.
abbrev pub moment_left : KernelState → List (ℕ × DiskSeen) → MarksSeen → Moment
moment_left s disks marks =
    record { history = s.history; contents = contents_by_number disks; faults = faults_by_number disks; marks = marks }

-- MARKS ARE LEFT that are true of the disks, and whose counts are of failures; no transfer is out. Each row is left so, and its mark is no older than the state's.
-- Each block of a disk of files is accounted for from the state on.
pub record LeavesMarks (opening : Flat) (s : KernelState) (disks : List (ℕ × DiskSeen)) (fault : Option DiskFault) : Type 0 where
  pub marks : MarksSeen
  pub fits : MarksFit opening s.history (contents_by_number disks) no_notes marks
  pub failures : FailuresFit (faults_by_number disks) marks
  pub spoiled : ℕ
  pub rows : (disk block : ℕ) → IsRowLeft (length s.history) fault spoiled disk block (mark_row s.marks disk block) (mark_row marks disk block)
  pub later : (disk block : ℕ) → entries_in (mark_row s.marks disk block).mark ≤ entries_in (mark_row marks disk block).mark
  pub accounts : AccountsFor opening (moment_of s no_notes) (moment_left s disks marks)
