-- The rows of blocks, and the pushes of seats. Public clauses cite this.
use Rattle.std.specs.Prelude.{ℕ, ◌<◌, List, [], length, false, Option, None, slice_index_or, slice_set}
use Rattle.disk_marks.specs.declared.marks.Mark.TheVariants.{Blank}
use Rattle.disk_marks.specs.declared.marks.MarkRow.{MarkRow}
use Rattle.disk_marks.specs.declared.marks.Pushing.{Pushing}

-- The rows by disk and block; and of each seat the push of a file's page that it has out, unless that page was taken away since.
pub record MarksSeen : Type 0 where
  pub rows : List (List MarkRow)
  pub pushes : List (Option Pushing)

-- No rows, and no pushes.
abbrev pub no_marks : MarksSeen
no_marks = record { rows = []; pushes = [] }

-- A block of which nothing is known but that no page was there.
abbrev pub unused_row : MarkRow
unused_row = record { mark = Blank 0; pushed = false }

-- The row of a block of a disk; an unused one where there is no such block.
abbrev pub mark_row : MarksSeen → ℕ → ℕ → MarkRow
mark_row m disk block = slice_index_or (slice_index_or m.rows disk []) block unused_row

-- The push that a seat has out.
abbrev pub push_of : MarksSeen → ℕ → Option Pushing
push_of m seat = slice_index_or m.pushes seat None

-- The block of the disk has a row.
abbrev pub HasRow : MarksSeen → ℕ → ℕ → Type 0
HasRow m disk block = (disk < length m.rows) × (block < length (slice_index_or m.rows disk []))

-- The marks with another row of a block.
abbrev pub with_mark_row : MarksSeen → ℕ → ℕ → MarkRow → MarksSeen
with_mark_row m disk block row = record m { rows = slice_set m.rows disk (slice_set (slice_index_or m.rows disk []) block row) }

-- The marks with another push of a seat, or none.
abbrev pub with_push : MarksSeen → ℕ → Option Pushing → MarksSeen
with_push m seat push = record m { pushes = slice_set m.pushes seat push }
