-- What goes out with a flight, of a read and of a push alike: a frame and a disk.
use Rattle.std.specs.Prelude.{◌≡◌, ◌≢◌, ◌⊎◌, ℕ, false, length, Some, None, IsSome, slice_set}
use Rattle.page_store.specs.core_arena.Bytes.{bytes_at}
use Rattle.page_store.specs.page_hash.Names.{name_at}
use Rattle.page_store.specs.page_hash.declared.PageName.{PageName}
use Rattle.page_store.specs.page_lock.Rows.{row_at}
use Rattle.page_store.specs.Bays.{home, out, bay_at}
use Rattle.page_store.specs.Notes.{Note}
use Rattle.page_store.specs.Seen.{StoreSeen, IsSoundStore, IsListedFrame}
use Rattle.vm_world.specs.World.{core_of}

-- A frame that doesn't go out keeps its bytes and its name, and all of its row but what a page has of a snapshot of it that goes out now.
pub record KeepsFrame (old new : StoreSeen) (sent : PageName) (k : ℕ) : Type 0 where
  pub bytes : bytes_at new.frames k ≡ bytes_at old.frames k
  pub name : name_at new.names k ≡ name_at old.names k
  pub keeps : (row_at new.rows k).keeps ≡ (row_at old.rows k).keeps
  pub modified : (row_at new.rows k).modified ≡ (row_at old.rows k).modified
  pub gone : (row_at new.rows k).gone ≡ (row_at old.rows k).gone
  pub source : (row_at new.rows k).source ≡ (row_at old.rows k).source
  pub rewritten : name_at old.names k ≢ Some sent → (row_at new.rows k).rewritten ≡ (row_at old.rows k).rewritten
  pub listed : IsListedFrame new k → IsListedFrame old k

-- The flight's frame was home, free or cached or the page's own, and no snapshot of it was away; it goes out under the page's name or under none. Its disk
-- was home, and goes out too.
pub record Sends (old new : StoreSeen) (seat : ℕ) (note : Note) : Type 0 where
  pub sound : IsSoundStore new
  pub core : core_of new ≡ core_of old
  pub frames : length new.frames ≡ length old.frames
  pub was : bay_at old.bays note.number ≡ home note.disk
  pub bays : new.bays ≡ slice_set old.bays note.number (out seat)
  pub filled : IsSome (bytes_at old.frames note.frame)
  pub held : IsListedFrame old note.frame ⊎ (name_at old.names note.frame ≡ Some note.name)
  pub single : (row_at old.rows note.frame).snapshot ≡ None
  pub away : bytes_at new.frames note.frame ≡ None
  pub keeps : (row_at new.rows note.frame).keeps ≡ 0
  pub ungone : (row_at new.rows note.frame).gone ≡ false
  pub unlisted : ¬ IsListedFrame new note.frame
  pub named : (n : PageName) → name_at new.names note.frame ≡ Some n → n ≡ note.name
  pub others : (k : ℕ) → k ≢ note.frame → KeepsFrame old new note.name k
