-- What calls do to the values of names, and what they leave as it was. Public clauses cite this.
use Rattle.std.specs.Prelude.{◌≡◌, ◌≢◌, ◌⊎◌, ◌↔◌, ◌==◌, ◌||◌, ℕ, Bool, true, false, if◌then◌else◌, List, Option, Some, None, IsTrue, length, Contains}
use Rattle.core_arena.specs.Bytes.{bytes_at}
use Rattle.page_hash.specs.Names.{name_at, is_name}
use Rattle.page_hash.specs.declared.PageName.{PageName}
use Rattle.page_lock.specs.Rows.{row_at}
use Rattle.page_store.specs.Bytes.{clip}
use Rattle.page_store.specs.StoreFits.{StoreFits}
use Rattle.page_store.specs.Notes.{Note, Notes}
use Rattle.page_store.specs.Seen.{StoreSeen, residence}
use Rattle.page_store.specs.Steps.{next_name}
use Rattle.page_store.specs.Table.{PlaceTable}
use Rattle.page_store.specs.Value.{value, tells}
use Rattle.page_store.specs.declared.place.Place.{Place}
use Rattle.page_store.specs.declared.residence.Residence.TheVariants as at

-- A disk tells its content after a call exactly where it did before.
abbrev pub SameDisksTell : StoreSeen → Notes → StoreSeen → Notes → Type 0
SameDisksTell old before new after = (number : ℕ) → tells new after number ≡ tells old before number

-- the value that a name has once a frame was taken: the name that the frame held is cut at its valid bytes
abbrev pub after_taking : Option PageName → PageName → Place → List ℕ → List ℕ
after_taking taken n place bytes = if is_name taken n then clip place.valid bytes else bytes

-- Every name keeps its value.
pub record KeepsValues (old : StoreSeen) (before : Notes) (new : StoreSeen) (after : Notes) (table : PlaceTable) : Type 0 where
  pub fits : StoreFits new after table
  pub alike : SameDisksTell old before new after
  pub values : (n : PageName) → IsTrue (tells old before (table n).disk)
      → value new after table n ≡ value old before table n

-- Every name keeps its value, but for that of one name.
pub record KeepsOtherValues (old : StoreSeen) (before : Notes) (new : StoreSeen) (after : Notes) (table : PlaceTable) (name : PageName) : Type 0 where
  pub fits : StoreFits new after table
  pub alike : SameDisksTell old before new after
  pub values : (n : PageName) → n ≢ name → IsTrue (tells old before (table n).disk)
      → value new after table n ≡ value old before table n

-- A frame is taken for another use, where one is available: every name keeps its value, but that the name which the frame
-- held is cut at its valid bytes.
pub record TakesFrame (old : StoreSeen) (before : Notes) (new : StoreSeen) (after : Notes) (table : PlaceTable) : Type 0 where
  pub fits : StoreFits new after table
  pub alike : SameDisksTell old before new after
  pub values : (n : PageName) → IsTrue (tells old before (table n).disk)
      → value new after table n ≡ after_taking (next_name old) n (table n) (value old before table n)

-- A frame is taken for a name that gets new bytes: that name has these, and the others are as when a frame is taken.
pub record FillsFrame (old : StoreSeen) (before : Notes) (new : StoreSeen) (after : Notes) (table : PlaceTable) (name : PageName) (bytes : List ℕ) : Type 0 where
  pub fits : StoreFits new after table
  pub alike : SameDisksTell old before new after
  pub filled : value new after table name ≡ bytes
  pub others : (n : PageName) → n ≢ name → IsTrue (tells old before (table n).disk)
      → value new after table n ≡ after_taking (next_name old) n (table n) (value old before table n)

-- the same bytes, or with zeros past the valid ones
abbrev pub SameOrCut : Place → List ℕ → List ℕ → Type 0
SameOrCut place old new = (new ≡ old) ⊎ (new ≡ clip place.valid old)

-- Any number of calls that keep values: each name has its value, or that cut at its valid bytes.
pub record KeepsButTails (old : StoreSeen) (before : Notes) (new : StoreSeen) (after : Notes) (table : PlaceTable) : Type 0 where
  pub fits : StoreFits new after table
  pub alike : SameDisksTell old before new after
  pub values : (n : PageName) → IsTrue (tells old before (table n).disk)
      → SameOrCut (table n) (value old before table n) (value new after table n)

-- a set of frames: this one, or none
abbrev pub is_only : Option ℕ → ℕ → Bool
is_only None k = false
is_only (Some frame) k = k == frame

-- a frame with the snapshot of its page, and with the own frame of the page that it has a snapshot of
abbrev pub family : StoreSeen → ℕ → ℕ → Bool
family s frame k = (k == frame) || (is_only (row_at s.rows frame).snapshot k || is_only (row_at s.rows frame).source k)

-- the family of a frame; no frame where there is none
abbrev pub family_of : StoreSeen → Option ℕ → ℕ → Bool
family_of s None k = false
family_of s (Some frame) k = family s frame k

-- A call touches at most the frames of a set: every other frame has its bytes, its name, its row and its place on the lists;
-- and every name that these frames hold neither before nor after is where it was.
pub record Touches (old new : StoreSeen) (touched : ℕ → Bool) : Type 0 where
  pub frames : length new.frames ≡ length old.frames
  pub bytes : (k : ℕ) → touched k ≡ false → bytes_at new.frames k ≡ bytes_at old.frames k
  pub names : (k : ℕ) → touched k ≡ false → name_at new.names k ≡ name_at old.names k
  pub rows : (k : ℕ) → touched k ≡ false → row_at new.rows k ≡ row_at old.rows k
  pub free : (k : ℕ) → touched k ≡ false → Contains new.free k ↔ Contains old.free k
  pub cached : (k : ℕ) → touched k ≡ false → Contains new.cached k ↔ Contains old.cached k
  pub residence : (n : PageName) → ((k : ℕ) → touched k ≡ true → name_at old.names k ≢ Some n)
      → ((k : ℕ) → touched k ≡ true → name_at new.names k ≢ Some n) → residence new n ≡ residence old n
