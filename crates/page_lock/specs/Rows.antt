-- The rows of frames. Public clauses cite this.
use Rattle.std.specs.Prelude.{ℕ, Bool, ◌||◌, List, None, false, slice_index_or}
use Rattle.page_lock.specs.declared.Row.{Row}

-- nobody holds the frame or keeps it, and no bit is set
abbrev pub clear_row : Row
clear_row = record { holder = None; keeps = 0; gone = false; referenced = false; modified = false; rewritten = false; snapshot = None; source = None }

-- the row of a frame
abbrev pub row_at : List Row → ℕ → Row
row_at rows frame = slice_index_or rows frame clear_row

-- the row with other bits: a page that is modified counts as rewritten
abbrev pub with_bits : Row → Bool → Bool → Row
with_bits row referenced modified = record row { referenced = referenced; modified = modified; rewritten = row.rewritten || modified }

-- the row with another bit of use, and all else as it was
abbrev pub with_use : Row → Bool → Row
with_use row referenced = record row { referenced = referenced }

-- the row with bits added that were told of its translations: it counts as rewritten only where these say so
abbrev pub with_bits_added : Row → Bool → Bool → Row
with_bits_added row referenced modified = record row { referenced = row.referenced || referenced; modified = row.modified || modified; rewritten = row.rewritten || modified }
