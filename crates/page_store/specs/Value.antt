-- The value of a name, wherever its page is. Public clauses cite this.
use Rattle.std.specs.Prelude.{ℕ, Bool, if◌then◌else◌, List, Option, Some, None, is_some}
use Rattle.core_arena.specs.Bytes.{bytes_at, zeros}
use Rattle.page_hash.specs.Names.{find}
use Rattle.page_hash.specs.declared.PageName.{PageName}
use Rattle.page_lock.specs.Rows.{row_at}
use Rattle.page_store.specs.Bays.{BaySeen, missing, home, out, bay_at, block_of}
use Rattle.page_store.specs.Bytes.{clip}
use Rattle.page_store.specs.Notes.{Note, Notes}
use Rattle.page_store.specs.Seen.{StoreSeen}
use Rattle.page_store.specs.Table.{PlaceTable}
use Rattle.page_store.specs.declared.place.Place.{Place}

-- the content of a disk as its note has it
abbrev pub content_in_note : Option Note → Option (List (List ℕ))
content_in_note None = None
content_in_note (Some note) = note.disk.content

-- the content of a disk as its bay has it, or as the note of the seat that has it
abbrev pub content_in_bay : BaySeen → Notes → Option (List (List ℕ))
content_in_bay missing notes = None
content_in_bay (home disk) notes = disk.content
content_in_bay (out seat) notes = content_in_note (notes seat)

-- the content of the disk of a number, which is home or in a note
abbrev pub content_of : StoreSeen → Notes → ℕ → Option (List (List ℕ))
content_of s notes number = content_in_bay (bay_at s.bays number) notes

-- whether the disk of a number tells its content
abbrev pub tells : StoreSeen → Notes → ℕ → Bool
tells s notes number = is_some (content_of s notes number)

-- the value that a page has where no frame holds it: zeros where it is blank, else its block up to its valid bytes
abbrev pub backing_value : StoreSeen → Notes → Place → List ℕ
backing_value s notes place = if place.blank then zeros else clip place.valid (block_of (content_of s notes place.disk) place.block)

-- the note of the seat that holds a frame
abbrev pub note_of_holder : Option ℕ → Notes → Option Note
note_of_holder None notes = None
note_of_holder (Some seat) notes = notes seat

-- the value of a page whose frame is away: the note's bytes where the note writes
abbrev pub bytes_moving : Option Note → List ℕ → List ℕ
bytes_moving None otherwise = otherwise
bytes_moving (Some note) otherwise = if note.writes then note.bytes else otherwise

-- the value of the page that a frame holds: its bytes where it is home, else as its note has it
abbrev pub frame_value : Option (List ℕ) → Option Note → List ℕ → List ℕ
frame_value None it otherwise = bytes_moving it otherwise
frame_value (Some bytes) it otherwise = bytes

-- the value of a page that lives at this place, by the frame that holds it, if one does
abbrev pub value_in : Option ℕ → StoreSeen → Notes → Place → List ℕ
value_in None s notes place = backing_value s notes place
value_in (Some frame) s notes place = frame_value (bytes_at s.frames frame) (note_of_holder (row_at s.rows frame).holder notes) (backing_value s notes place)

-- The value of a name: the bytes of the home frame that holds it; else those of the note that writes it; else what its
-- disk has, or zeros where it is blank.
abbrev pub value : StoreSeen → Notes → PlaceTable → PageName → List ℕ
value s notes table name = value_in (find s.names name) s notes (table name)
