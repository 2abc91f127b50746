-- The frame rule: what steps below the segments do to the world, whatever the segments, the notes and the history are. Public clauses cite this.
use Rattle.std.specs.Prelude.{◌≡◌, ◌↔◌, ◌-◌, ℕ, Bool, List, map, length, Some, None, IsTrue, slice_set, if◌then◌else◌}
use Rattle.page_store.specs.block_device.DiskSeen.{DiskSeen}
use Rattle.page_store.specs.page_hash.declared.PageName.{PageName}
use Rattle.page_store.specs.Bays.{BaySeen, home, out, bay_at}
use Rattle.page_store.specs.Bytes.{clip}
use Rattle.page_store.specs.Notes.{Note, Notes, with_note}
use Rattle.flat_model.specs.vnode_files.Files.{vnode_at}
use Rattle.flat_model.specs.vnode_files.Vnode.{VnodeSeen}
use Rattle.flat_model.specs.Words.{Page, pages_in}
use Rattle.vm_world.specs.MemoryFits.{MemoryFits}
use Rattle.vm_world.specs.NotesFit.{NotesFit}
use Rattle.vm_world.specs.Pages.{page_value}
use Rattle.vm_world.specs.Segments.{Spaces}
use Rattle.vm_world.specs.World.{World, world_table, core_of, file_name, page_exists, AllTell}

-- What goes out or comes back in a step: nothing, or the flight of one seat.
pub data Trip : Type 0 where
  stays : Trip
  leaves : ℕ → Note → Trip
  returns : ℕ → Note → Trip

-- The notes before a step have what comes back, and nothing for a seat that takes something out.
abbrev pub HasTrip : Trip → Notes → Type 0
HasTrip stays notes = Unit {0}
HasTrip (leaves seat note) notes = notes seat ≡ None
HasTrip (returns seat note) notes = notes seat ≡ Some note

-- The notes after a step.
abbrev pub notes_after : Trip → Notes → Notes
notes_after stays notes = notes
notes_after (leaves seat note) notes = with_note notes seat (Some note)
notes_after (returns seat note) notes = with_note notes seat None

-- Where the disks are after a step: as before, but that the flight's disk goes out or comes home.
abbrev pub MovesBay : Trip → List BaySeen → List BaySeen → Type 0
MovesBay stays old new = new ≡ old
MovesBay (leaves seat note) old new = (bay_at old note.number ≡ home note.disk) × (new ≡ slice_set old note.number (out seat))
MovesBay (returns seat note) old new = (bay_at old note.number ≡ out seat) × ((d : DiskSeen) × (new ≡ slice_set old note.number (home d)))

-- The maps, the counts of the slots and the files' records are as they were; pages may have been pushed for the first time.
pub record KeepsTables (old new : World) : Type 0 where
  pub maps : new.maps ≡ old.maps
  pub counts : new.anon.counts ≡ old.anon.counts
  pub reserved : new.anon.reserved ≡ old.anon.reserved
  pub disks : new.files.disks ≡ old.files.disks
  pub infos : map (λ (v : VnodeSeen). v.info) new.files.files ≡ map (λ (v : VnodeSeen). v.info) old.files.files

-- A page, or the page with zeros past its valid bytes.
abbrev pub cut_page : Bool → ℕ → Page → Page
cut_page cut valid page = if cut then clip valid page else page

-- THE FRAME RULE. Memory and the notes fit after the step where they did before, and disks tell where they did; and each page that exists keeps its value,
-- but that the names of taken frames may be cut at their valid bytes. These pages are whole.
pub record WorldStep (old new : World) (spaces : Spaces) (trip : Trip) (cut : PageName → Bool) : Type 0 where
  pub tables : KeepsTables old new
  pub core : core_of new.store ≡ core_of old.store
  pub frames : length new.store.frames ≡ length old.store.frames
  pub bays : MovesBay trip old.store.bays new.store.bays
  pub memory : MemoryFits (record { world = new; spaces = spaces })
  pub notes : (notes : Notes) → HasTrip trip notes → NotesFit old notes → NotesFit new (notes_after trip notes)
  pub tells : (notes : Notes) → HasTrip trip notes → NotesFit old notes → AllTell old notes ↔ AllTell new (notes_after trip notes)
  pub whole : (notes : Notes) (name : PageName) → HasTrip trip notes → NotesFit old notes → AllTell old notes → IsTrue (page_exists old.files old.anon name)
      → IsTrue (cut name) → length (page_value old notes name) ≡ 4096
  pub pages : (notes : Notes) (name : PageName) → HasTrip trip notes → NotesFit old notes → AllTell old notes → IsTrue (page_exists old.files old.anon name)
      → page_value new (notes_after trip notes) name ≡ cut_page (cut name) (world_table old name).valid (page_value old notes name)

-- The files whose tail a cut of names makes zeros: those whose last page is cut.
abbrev pub tails_lost : World → (PageName → Bool) → ℕ → Bool
tails_lost w cut f = cut (file_name f (pages_in (vnode_at w.files f).info.length - 1))
