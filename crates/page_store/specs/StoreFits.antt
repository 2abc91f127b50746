-- When the notes and the table agree with a store. Public clauses cite this.
use Rattle.std.specs.Prelude.{◌≡◌, ℕ, true, false, List, Some, None, IsTrue, length, Contains}
use Rattle.block_device.specs.DiskSeen.{HasBlocks}
use Rattle.core_arena.specs.Bytes.{bytes_at}
use Rattle.page_hash.specs.Names.{name_at}
use Rattle.page_hash.specs.declared.PageName.{PageName}
use Rattle.page_lock.specs.Rows.{row_at}
use Rattle.page_store.specs.Bays.{out, bay_at}
use Rattle.page_store.specs.Bytes.{clip}
use Rattle.page_store.specs.Notes.{Note, Notes}
use Rattle.page_store.specs.Seen.{StoreSeen, IsGone}
use Rattle.page_store.specs.Table.{PlaceTable, IsApart}
use Rattle.page_store.specs.Out.{HasOut}
use Rattle.page_store.specs.Value.{backing_value, tells}

-- A seat's note says what is out with it: its disk, whole where it tells, and its frame with 4096 bytes. The name lives in
-- the note's block, and a page that is read in and isn't gone has the note's valid bytes and isn't blank.
pub record NoteAgrees (s : StoreSeen) (table : PlaceTable) (seat : ℕ) (note : Note) : Type 0 where
  pub mine : note.seat ≡ seat
  pub origin : note.origin ≡ s.origin
  pub out : HasOut s seat note.number note.frame note.writes note.name
  pub away : bytes_at s.frames note.frame ≡ None
  pub disk : (table note.name).disk ≡ note.number
  pub block : (table note.name).block ≡ note.block
  pub read : note.writes ≡ false → (row_at s.rows note.frame).gone ≡ false
      → ((table note.name).valid ≡ note.valid) × ((table note.name).blank ≡ false)
  pub whole : HasBlocks note.disk.content note.disk.size
  pub bytes : length note.bytes ≡ 4096

-- A page that may lose its frame: where the disk tells, the frame has the value that the page would have without it, bytes
-- past the valid ones aside; and a note that writes this name writes a page that is gone, and the name is blank.
pub record IsClean (s : StoreSeen) (notes : Notes) (table : PlaceTable) (frame : ℕ) (n : PageName) : Type 0 where
  pub same : IsTrue (tells s notes (table n).disk) → (bytes : List ℕ) → bytes_at s.frames frame ≡ Some bytes
      → clip (table n).valid bytes ≡ backing_value s notes (table n)
  pub unwritten : (seat : ℕ) (note : Note) → notes seat ≡ Some note → note.writes ≡ true → note.name ≡ n
      → IsGone s note.frame × ((table n).blank ≡ true)

-- The store's share of what a machine keeps true: no two names share a block; the notes say what is out, and nothing else
-- is; and the pages on the cache list may lose their frames.
pub record StoreFits (s : StoreSeen) (notes : Notes) (table : PlaceTable) : Type 0 where
  pub apart : IsApart table
  pub each_note : (seat : ℕ) (note : Note) → notes seat ≡ Some note → NoteAgrees s table seat note
  pub each_frame : (frame seat : ℕ) → (row_at s.rows frame).holder ≡ Some seat
      → (note : Note) × (notes seat ≡ Some note) × (note.frame ≡ frame)
  pub each_bay : (number seat : ℕ) → bay_at s.bays number ≡ out seat
      → (note : Note) × (notes seat ≡ Some note) × (note.number ≡ number)
  pub each_cached : (frame : ℕ) (n : PageName) → Contains s.cached frame → name_at s.names frame ≡ Some n
      → IsClean s notes table frame n
