-- How marks change. Public clauses cite this.
use Rattle.std.specs.Prelude.{ℕ, ◌==◌, ◌&&◌, true, false, Option, Some, None, map, nat_lt, if◌then◌else◌}
use Rattle.disk_marks.specs.declared.marks.Mark.TheVariants.{Held, Blank, Unsure}
use Rattle.disk_marks.specs.declared.marks.MarkRow.{MarkRow}
use Rattle.disk_marks.specs.declared.marks.Pushing.{Pushing}
use Rattle.disk_marks.specs.Marks.{MarksSeen, mark_row, push_of, with_mark_row, with_push}

-- A PUSH of a seat BEGINS: of this page of a file, after so many entries.
abbrev pub marks_begun : MarksSeen → ℕ → ℕ → ℕ → ℕ → MarksSeen
marks_begun m seat file page from = with_push m seat (Some (record { file = file; page = page; from = from; whole = true }))

-- The row of a block whose push went well: the block has the page as it was when the push began, unless the page was taken away meanwhile.
abbrev pub row_written : Option Pushing → MarkRow → MarkRow
row_written (Some push) row = record { mark = Held push.from; pushed = push.whole }
row_written None row = row

-- The row of a block whose push failed, after so many entries and with these counts: nothing is sure of the block.
abbrev pub row_spoiled : ℕ → ℕ → ℕ → MarkRow
row_spoiled j before after = record { mark = Unsure j before after; pushed = false }

-- The push of a seat to a block ends, and it went well.
abbrev pub marks_written : MarksSeen → ℕ → ℕ → ℕ → MarksSeen
marks_written m seat disk block = with_push (with_mark_row m disk block (row_written (push_of m seat) (mark_row m disk block))) seat None

-- The push of a seat to a block ends, and it failed: after so many entries, with these counts.
abbrev pub marks_spoiled : MarksSeen → ℕ → ℕ → ℕ → ℕ → ℕ → ℕ → MarksSeen
marks_spoiled m seat disk block j before after = with_push (with_mark_row m disk block (row_spoiled j before after)) seat None

-- The row of a block that has its page as it is after so many entries.
abbrev pub row_raised : ℕ → MarkRow → MarkRow
row_raised j row = record row { mark = Held j }

-- THE MARK OF A PAGE RISES that isn't modified and isn't blank: after so many entries its block has
-- it.
abbrev pub marks_raised : MarksSeen → ℕ → ℕ → ℕ → MarksSeen
marks_raised m disk block j = with_mark_row m disk block (row_raised j (mark_row m disk block))

-- A page of a file is taken away: it is past the end, or zeros, after so many entries.
abbrev pub marks_taken : MarksSeen → ℕ → ℕ → ℕ → MarksSeen
marks_taken m disk block j = with_mark_row m disk block (record { mark = Blank j; pushed = false })

-- Of a page that stays as a file is cut zeros needn't stand past the new end.
abbrev pub marks_unpushed : MarksSeen → ℕ → ℕ → MarksSeen
marks_unpushed m disk block = with_mark_row m disk block (record (mark_row m disk block) { pushed = false })

-- A push as a file is cut: of a page that the file doesn't keep it is none any more, while any
-- other of the file began before the cut.
abbrev pub push_cut : ℕ → ℕ → Option Pushing → Option Pushing
push_cut file pages None = None
push_cut file pages (Some push) =
    if push.file == file
    then if nat_lt push.page pages then Some (record push { whole = false }) else None
    else Some push

-- A FILE IS CUT to so many pages, as the pushes of all seats have it.
abbrev pub pushes_cut : MarksSeen → ℕ → ℕ → MarksSeen
pushes_cut m file pages = record m { pushes = map (push_cut file pages) m.pushes }

-- A push of this page of a file is none any more; any other stays.
abbrev pub push_dropped : ℕ → ℕ → Option Pushing → Option Pushing
push_dropped file page None = None
push_dropped file page (Some push) = if push.file == file && push.page == page then None else Some push

-- The pushes of all seats, those of this page of a file being none any more.
abbrev pub pushes_dropped : MarksSeen → ℕ → ℕ → MarksSeen
pushes_dropped m file page = record m { pushes = map (push_dropped file page) m.pushes }

-- THE MARK OF A BLANK PAGE RISES: after so many entries it is zeros, whatever its block has; and a
-- push of it is none any more.
abbrev pub marks_emptied : MarksSeen → ℕ → ℕ → ℕ → ℕ → ℕ → MarksSeen
marks_emptied m disk block file page j = pushes_dropped (marks_taken m disk block j) file page
