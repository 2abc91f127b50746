-- Rows and names of a page and of its snapshot. Public clauses cite this.
use Rattle.std.specs.Prelude.{ℕ, ◌||◌, Bool, true, false, List, Option, Some, None, slice_set}
use Rattle.page_hash.specs.declared.PageName.{PageName}
use Rattle.page_lock.specs.Rows.{row_at, clear_row}
use Rattle.page_lock.specs.declared.Row.{Row}

-- a frame that a seat has becomes a snapshot of a page, which was not written since
abbrev pub rows_paired : List Row → ℕ → ℕ → ℕ → List Row
rows_paired rows own copy seat = slice_set
    (slice_set rows copy (record clear_row { holder = Some seat; source = Some own }))
    own (record (row_at rows own) { snapshot = Some copy; rewritten = false })

-- the page of a snapshot is gone, and its own frame has no snapshot, and this modified bit
abbrev pub rows_parted : List Row → ℕ → ℕ → Bool → List Row
rows_parted rows own copy modified = slice_set
    (slice_set rows copy (record (row_at rows copy) { source = None; gone = true }))
    own (record (row_at rows own) { snapshot = None; modified = modified })

-- this snapshot of a frame's page, where there is one, is gone
abbrev pub rows_without : Option ℕ → List Row → ℕ → List Row
rows_without None rows own = rows
rows_without (Some copy) rows own = rows_parted rows own copy (row_at rows own).modified

-- the snapshot of a frame's page, where one is away, is gone
abbrev pub rows_forsaken : List Row → ℕ → List Row
rows_forsaken rows own = rows_without (row_at rows own).snapshot rows own

-- the transfer of a snapshot is over: its page is modified where the transfer failed or it was rewritten meanwhile
abbrev pub rows_settled : Option ℕ → List Row → ℕ → Bool → List Row
rows_settled None rows frame dirty = rows
rows_settled (Some own) rows frame dirty = rows_parted rows own frame (dirty || (row_at rows own).rewritten)

-- the rows once a page was pushed: from a snapshot in the frame that was taken, where one was, else from its own frame
abbrev pub rows_pushed : Option ℕ → List Row → ℕ → ℕ → List Row
rows_pushed None rows own seat = slice_set rows own (record (row_at rows own) { holder = Some seat })
rows_pushed (Some copy) rows own seat = rows_paired rows own copy seat

-- the names once a frame was taken, where one was
abbrev pub names_taken : Option ℕ → List (Option PageName) → List (Option PageName)
names_taken None names = names
names_taken (Some frame) names = slice_set names frame None
