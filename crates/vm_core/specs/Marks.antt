-- How a state's marks change as it starts, and as transfers begin and end. Public clauses cite this.
use Rattle.std.specs.Prelude.{◌≡◌, ◌⊎◌, ◌<◌, ◌&&◌, ℕ, Option, Some, None, length, nat_lt, replicate, if◌then◌else◌}
use Rattle.std.specs.Option.{option_map_or}
use Rattle.std.specs.FinMap as finite
use Rattle.fault_entry.specs.page_hash.declared.PageName.{PageName}
use Rattle.fault_entry.specs.page_store.Flight.{FlightSeen, Progress, fresh, done, failed, file_push_of}
use Rattle.fault_entry.specs.vnode_files.Files.{FilesSeen, vnode_at}
use Rattle.fault_entry.specs.vnode_files.Layout.{pages_kept, disk_of_file, block_of_page}
use Rattle.fault_entry.specs.vnode_files.Vnode.{is_blank}
use Rattle.fault_entry.specs.vm_world.Marks.{MarksSeen, HasRow, mark_row, unused_row, page_row, opening_row}
use Rattle.disk_marks.specs.Changes.{marks_begun, marks_written, marks_spoiled}
use Rattle.disk_marks.specs.declared.marks.Mark.{Mark}

-- What is known of the block of a page that a file keeps; none where there is no such page.
abbrev pub mark_kept : FilesSeen → MarksSeen → ℕ → ℕ → Option Mark
mark_kept files m file page = if nat_lt file (length files.files) && nat_lt page (pages_kept files file) then Some (page_row files m file page).mark else None

-- THE MARKS AS A TRANSFER BEGINS, after so many entries: the push of a file's page is kept for its seat.
abbrev pub marks_departed : MarksSeen → ℕ → FlightSeen → ℕ → MarksSeen
marks_departed m seat f entries = option_map_or (λ (page : PageName × ℕ). marks_begun m seat page.0.object page.0.page entries) (file_push_of f) m

-- The marks as the push of a file's page to this block ends, by how it went: the block has the page as it was when the push began, unless the page was taken
-- away since; or nothing is sure of the block.
abbrev pub marks_after_push : MarksSeen → ℕ → FlightSeen → ℕ → ℕ → Progress → MarksSeen
marks_after_push m seat f block entries fresh = m
marks_after_push m seat f block entries done = marks_written m seat f.number block
marks_after_push m seat f block entries failed = marks_spoiled m seat f.number block entries f.before f.disk.faults

-- THE MARKS AS A TRANSFER ENDS, after so many entries: none but the push of a file's page changes any.
abbrev pub marks_landed : MarksSeen → ℕ → FlightSeen → ℕ → MarksSeen
marks_landed m seat f entries = option_map_or (λ (page : PageName × ℕ). marks_after_push m seat f page.1 entries f.outcome) (file_push_of f) m

-- A page comes before this one, in the order of the files and their pages.
abbrev pub ComesBefore : ℕ → ℕ → ℕ → ℕ → Type 0
ComesBefore file page f p = (f < file) ⊎ ((f ≡ file) × (p < page))

-- A page before this one has the block.
abbrev pub IsTakenBefore : FilesSeen → ℕ → ℕ → ℕ → ℕ → Type 0
IsTakenBefore files file page disk block =
    (f : ℕ) × (p : ℕ) × (f < length files.files) × (p < pages_kept files f) × ComesBefore file page f p × (disk_of_file files f ≡ disk) × (block_of_page files f p ≡ block)

-- The marks at the opening as far as the pages before this one go: every other row is unused yet.
pub record AreMarkedTo (files : FilesSeen) (seats : ℕ) (m : MarksSeen) (file page : ℕ) : Type 0 where
  pub there : (disk blocks block : ℕ) → finite.get files.disks disk ≡ Some blocks → block < blocks → HasRow m disk block
  pub pages : (f p : ℕ) → f < length files.files → p < pages_kept files f → ComesBefore file page f p → page_row files m f p ≡ opening_row (is_blank (vnode_at files f) p)
  pub rest : (disk block : ℕ) → ¬ IsTakenBefore files file page disk block → mark_row m disk block ≡ unused_row
  pub pushes : m.pushes ≡ replicate seats None
