-- When the marks of a state are true, and how transfers change them. Public clauses cite this.
use Rattle.std.specs.Prelude.{◌≡◌, ◌⊎◌, ◌==◌, ◌&&◌, ℕ, Some, not, if◌then◌else◌}
use Rattle.flat_model.specs.Flat.{Flat}
use Rattle.page_store.specs.core_arena.Bytes.{bytes_at}
use Rattle.page_store.specs.page_hash.Names.{name_at}
use Rattle.page_store.specs.Bays.{bay_at}
use Rattle.page_store.specs.Flight.{FlightSeen}
use Rattle.page_store.specs.Notes.{Note}
use Rattle.page_store.specs.Value.{content_of}
use Rattle.mark_laws.specs.disk_marks.Changes.{marks_begun}
use Rattle.mark_laws.specs.MarkLaws.{marks_by}
use Rattle.mark_laws.specs.MarksFit.{PushesFile, MarksFit, FailuresFit}
use Rattle.vm_world.specs.DiskPlaces.{faults_in}
use Rattle.vm_world.specs.Marks.{MarksSeen}
use Rattle.vm_world.specs.State.{KernelState, Seats, notes_of}
use Rattle.vm_world.specs.World.{World, world_table, AllTell}

-- Where the disks tell, the marks are true of the state's history, of what its disks have, at home or in the seats' notes, and of these notes.
abbrev pub MarksOf : Flat → KernelState → Seats → MarksSeen → Type 0
MarksOf opening s seats m = AllTell s.memory.world (notes_of seats) → MarksFit opening s.history (content_of s.memory.world.store (notes_of seats)) (notes_of seats) m

-- The counts that the marks name are of failures, whether disks tell or not.
abbrev pub FailuresOf : KernelState → Seats → MarksSeen → Type 0
FailuresOf s seats m = FailuresFit (λ disk. faults_in (bay_at s.memory.world.store.bays disk) (notes_of seats)) m

-- A push of a file's page sends what its frame has at home, to the page's place.
pub record SendsFrame (w : World) (note : Note) : Type 0 where
  pub pushes : PushesFile note
  pub frame : ℕ
  pub holds : name_at w.store.names frame ≡ Some note.name
  pub bytes : bytes_at w.store.frames frame ≡ Some note.bytes
  pub disk : (world_table w note.name).disk ≡ note.number
  pub block : (world_table w note.name).block ≡ note.block
  pub valid : (world_table w note.name).valid ≡ note.valid

-- The marks as a transfer leaves, after so many entries: the push of a file's page is kept for its seat.
abbrev pub marks_left : MarksSeen → ℕ → Note → ℕ → MarksSeen
marks_left m seat note from = if note.writes && not (note.name.object == 64) then marks_begun m seat note.name.object note.name.page from else m

-- What leaves sends what its frame has, where it is the push of a file's page.
abbrev pub MaySend : World → Note → Type 0
MaySend w note = SendsFrame w note ⊎ (¬ PushesFile note)

-- The marks as a transfer ends, by how it went, and after so many entries.
abbrev pub marks_ended : MarksSeen → ℕ → Note → ℕ → FlightSeen → MarksSeen
marks_ended m seat note j f = if note.writes && not (note.name.object == 64) then marks_by m seat note j f f.outcome else m
