-- The marks of a state, and how transfers and raises keep them true. Public clauses cite this.
use Rattle.std.specs.Prelude.{◌≡◌, ◌≢◌, ◌<◌, ℕ, Bool, length, if◌then◌else◌, Some, None, IsTrue}
use Rattle.flat_model.specs.Flat.{Flat}
use Rattle.page_store.specs.page_hash.declared.PageName.{PageName}
use Rattle.page_store.specs.Flight.{FlightSeen}
use Rattle.mark_laws.specs.disk_marks.declared.marks.Pushing.{Pushing}
use Rattle.mark_laws.specs.disk_marks.Marks.{MarksSeen, push_of}
use Rattle.mark_laws.specs.disk_marks.Changes.{marks_begun, marks_raised, marks_emptied}
use Rattle.mark_laws.specs.MarksFit.{pushed_page, PushesFile}
use Rattle.vm_world.specs.FlatMemory.{flat_memory}
use Rattle.vm_world.specs.HistoryFits.{HistoryFits}
use Rattle.vm_world.specs.MarksOf.{MarksOf, FailuresOf, SendsFrame, marks_ended}
use Rattle.vm_world.specs.MemoryFits.{MemoryFits}
use Rattle.vm_world.specs.NotesFit.{NotesFit}
use Rattle.vm_world.specs.State.{KernelState, Seats, Sent, notes_of, with_sent}
use Rattle.vm_world.specs.StateSteps.{after_step, ComesBack}
use Rattle.vm_world.specs.Wants.{IsCleanPage}
use Rattle.vm_world.specs.World.{World, world_table, AllTell, page_exists, is_unpushed}
use Rattle.vm_world.specs.WorldSteps.{WorldStep, leaves, returns}

-- What of the fit the marks stand on: memory, the notes, and the history where the disks tell.
pub record PagesFit (opening : Flat) (s : KernelState) (seats : Seats) : Type 0 where
  pub memory : MemoryFits s.memory
  pub notes : NotesFit s.memory.world (notes_of seats)
  pub replays : AllTell s.memory.world (notes_of seats) → HistoryFits opening s.history s.pending (flat_memory s.memory s.born (notes_of seats))

-- THE MARKS STAY TRUE as a transfer begins, a push of a file's page or any other, and as one ends.
pub record StateMarksLaw : Type 0 where
  pub begins : (opening : Flat) (s : KernelState) (new : World) (cut : PageName → Bool) (pending seat : ℕ) (seats : Seats) (sent : Sent) (m : MarksSeen)
      → PagesFit opening s seats → MarksOf opening s seats m → seats seat ≡ None → seat < length m.pushes
      → WorldStep s.memory.world new s.memory.spaces (leaves seat sent.note) cut → SendsFrame s.memory.world sent.note
      → MarksOf opening (after_step s new pending) (with_sent seats seat (Some sent)) (marks_begun m seat sent.note.name.object sent.note.name.page (length s.history))
  pub leaves : (opening : Flat) (s : KernelState) (new : World) (cut : PageName → Bool) (pending seat : ℕ) (seats : Seats) (sent : Sent) (m : MarksSeen)
      → PagesFit opening s seats → MarksOf opening s seats m → seats seat ≡ None
      → WorldStep s.memory.world new s.memory.spaces (leaves seat sent.note) cut → ¬ PushesFile sent.note
      → MarksOf opening (after_step s new pending) (with_sent seats seat (Some sent)) m
  pub ends : (opening : Flat) (s : KernelState) (new : World) (cut : PageName → Bool) (pending seat : ℕ) (seats : Seats) (sent : Sent) (f : FlightSeen) (m : MarksSeen)
      → PagesFit opening s seats → MarksOf opening s seats m → seats seat ≡ Some sent
      → WorldStep s.memory.world new s.memory.spaces (returns seat sent.note) cut → ComesBack sent.note f new
      → MarksOf opening (after_step s new pending) (with_sent seats seat None) (marks_ended m seat sent.note (length s.history) f)

-- A Sync may raise the mark of a page of a file: the page exists, and is clean.
pub record MayRise (w : World) (name : PageName) : Type 0 where
  pub far : name.object ≢ 64
  pub exists : IsTrue (page_exists w.files w.anon name)
  pub clean : IsCleanPage w name

-- The marks with that of a page raised; of a blank one the pushes are dropped.
abbrev pub marks_risen : World → MarksSeen → PageName → ℕ → MarksSeen
marks_risen w m name j =
    let place = world_table w name in
    if is_unpushed w.files w.anon name then marks_emptied m place.disk place.block name.object name.page j else marks_raised m place.disk place.block j

-- THE MARKS STAY TRUE as that of a page which a Sync may raise rises; and no push of the page is
-- kept then.
pub record StateRaiseLaw : Type 0 where
  pub raises : (opening : Flat) (s : KernelState) (seats : Seats) (m : MarksSeen) (name : PageName)
      → PagesFit opening s seats → MarksOf opening s seats m → MayRise s.memory.world name
      → MarksOf opening s seats (marks_risen s.memory.world m name (length s.history))
  pub still : (opening : Flat) (s : KernelState) (seats : Seats) (m : MarksSeen) (name : PageName)
      → PagesFit opening s seats → MarksOf opening s seats m → MayRise s.memory.world name → AllTell s.memory.world (notes_of seats)
      → (seat : ℕ) (push : Pushing) → push_of (marks_risen s.memory.world m name (length s.history)) seat ≡ Some push → pushed_page push ≢ name

-- THE FAILURES STAY TRUE as a disk leaves and comes back, whatever the flight did; and the failure of a push that it met is named.
pub record StateFailuresLaw : Type 0 where
  pub leaves : (opening : Flat) (s : KernelState) (new : World) (cut : PageName → Bool) (pending seat : ℕ) (seats : Seats) (sent : Sent) (m : MarksSeen)
      → PagesFit opening s seats → FailuresOf s seats m → seats seat ≡ None
      → WorldStep s.memory.world new s.memory.spaces (leaves seat sent.note) cut
      → FailuresOf (after_step s new pending) (with_sent seats seat (Some sent)) m
  pub ends : (opening : Flat) (s : KernelState) (new : World) (cut : PageName → Bool) (pending seat : ℕ) (seats : Seats) (sent : Sent) (f : FlightSeen) (m : MarksSeen)
      → PagesFit opening s seats → FailuresOf s seats m → seats seat ≡ Some sent
      → WorldStep s.memory.world new s.memory.spaces (returns seat sent.note) cut → ComesBack sent.note f new
      → FailuresOf (after_step s new pending) (with_sent seats seat None) (marks_ended m seat sent.note (length s.history) f)
