-- What stays where the table of places changes. Public clauses cite this.
use Rattle.std.specs.Prelude.{◌≡◌, ℕ, true, false, Some, Contains}
use Rattle.page_hash.specs.Names.{name_at}
use Rattle.page_hash.specs.declared.PageName.{PageName}
use Rattle.page_lock.specs.Rows.{row_at}
use Rattle.page_store.specs.StoreFits.{StoreFits, IsClean}
use Rattle.page_store.specs.Notes.{Note, Notes}
use Rattle.page_store.specs.Seen.{StoreSeen, residence}
use Rattle.page_store.specs.Table.{PlaceTable, IsApart}
use Rattle.page_store.specs.Value.{value}
use Rattle.page_store.specs.declared.residence.Residence.TheVariants as at

-- The table has a note's page on the note's disk, in its block, and a page that is read and isn't gone with the note's valid
-- bytes and not blank.
pub record HasNotePlace (s : StoreSeen) (table : PlaceTable) (note : Note) : Type 0 where
  pub disk : (table note.name).disk ≡ note.number
  pub block : (table note.name).block ≡ note.block
  pub read : note.writes ≡ false → (row_at s.rows note.frame).gone ≡ false
      → ((table note.name).valid ≡ note.valid) × ((table note.name).blank ≡ false)

-- A table that may take the place of another: a slot was made, pushed or dropped, a blank page written, a file grew or was
-- cut. No two names share a block, pages under way have their places, and pages on the cache list may lose their frames.
pub record MayReplaceTable (s : StoreSeen) (notes : Notes) (table : PlaceTable) : Type 0 where
  pub apart : IsApart table
  pub each_note : (seat : ℕ) (note : Note) → notes seat ≡ Some note → HasNotePlace s table note
  pub cached : (frame : ℕ) (n : PageName) → Contains s.cached frame → name_at s.names frame ≡ Some n → IsClean s notes table frame n

-- Such a table agrees with the store and the notes; and a name keeps its value where its place is the same, where a home
-- frame holds it, and where a note writes it and its frame still holds it. A page is clean for both where its place is the same.
pub record TableLaw : Type 0 where
  pub fits : (s : StoreSeen) (notes : Notes) (old new : PlaceTable) → StoreFits s notes old → MayReplaceTable s notes new → StoreFits s notes new
  pub same : (s : StoreSeen) (notes : Notes) (old new : PlaceTable) (n : PageName) → new n ≡ old n
      → value s notes new n ≡ value s notes old n
  pub home : (s : StoreSeen) (notes : Notes) (old new : PlaceTable) (n : PageName) (frame : ℕ) → residence s n ≡ at.Home frame
      → value s notes new n ≡ value s notes old n
  pub written : (s : StoreSeen) (notes : Notes) (old new : PlaceTable) (n : PageName) (seat : ℕ) (note : Note)
      → residence s n ≡ at.Moving seat → notes seat ≡ Some note → note.writes ≡ true
      → value s notes new n ≡ value s notes old n
  pub clean : (s : StoreSeen) (notes : Notes) (old new : PlaceTable) (frame : ℕ) (n : PageName) → new n ≡ old n
      → IsClean s notes old frame n → IsClean s notes new frame n
