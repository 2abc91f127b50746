-- What is known of the blocks of files' pages, as a state keeps it. Public clauses cite this.
use Rattle.std.specs.Prelude.{◌≡◌, ◌≢◌, ◌<◌, ℕ, Bool, true, false, None, Some, length, replicate}
use Rattle.std.specs.FinMap as finite
use Rattle.flat_model.specs.vnode_files.Files.{FilesSeen, vnode_at}
use Rattle.flat_model.specs.vnode_files.Layout.{pages_kept, disk_of_file, block_of_page}
use Rattle.flat_model.specs.vnode_files.Vnode.{is_blank}
use Rattle.mark_laws.specs.disk_marks.declared.marks.Mark.TheVariants.{Held, Blank}
use Rattle.mark_laws.specs.disk_marks.declared.marks.MarkRow.{MarkRow}
pub use Rattle.mark_laws.specs.disk_marks.Marks.{MarksSeen, HasRow, mark_row, no_marks, unused_row}

-- The row of a file's page is that of its block.
abbrev pub page_row : FilesSeen → MarksSeen → ℕ → ℕ → MarkRow
page_row files m file page = mark_row m (disk_of_file files file) (block_of_page files file page)

-- The row of a page at the opening: its block has it, unless it is blank.
abbrev pub opening_row : Bool → MarkRow
opening_row true = record { mark = Blank 0; pushed = false }
opening_row false = record { mark = Held 0; pushed = false }

-- No file's page has the block.
abbrev pub HasNoPage : FilesSeen → ℕ → ℕ → Type 0
HasNoPage files disk block = (file page : ℕ) → file < length files.files → page < pages_kept files file → disk_of_file files file ≡ disk → block_of_page files file page ≢ block

-- THE MARKS AT THE OPENING: each block of the files' disks has a row; that of a page which a file keeps says that the block has it, or that it is blank;
-- nothing is known of a block that no page has; and no push is out.
pub record AreOpeningMarks (files : FilesSeen) (seats : ℕ) (m : MarksSeen) : Type 0 where
  pub there : (disk blocks block : ℕ) → finite.get files.disks disk ≡ Some blocks → block < blocks → HasRow m disk block
  pub pages : (file page : ℕ) → file < length files.files → page < pages_kept files file → page_row files m file page ≡ opening_row (is_blank (vnode_at files file) page)
  pub free : (disk block : ℕ) → HasNoPage files disk block → mark_row m disk block ≡ unused_row
  pub pushes : m.pushes ≡ replicate seats None
