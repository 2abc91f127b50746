-- A Sync that answers, and the marks that it raises. Public clauses cite this.
use Rattle.std.specs.Prelude.{◌≡◌, ◌≤◌, ℕ, List, [], ◌∷◌, length, Some, slice_get}
use Rattle.flat_model.specs.vm_types.declared.call.Call.{Call}
use Rattle.flat_model.specs.vm_types.declared.call.Entry.{Entry}
use Rattle.flat_model.specs.vm_types.declared.call.Reply.TheVariants.{Synced}
use Rattle.flat_model.specs.Flat.{Flat}
use Rattle.page_store.specs.page_hash.declared.PageName.{PageName}
use Rattle.mark_laws.specs.disk_marks.Marks.{MarksSeen}
use Rattle.vm_world.specs.FlatMemory.{Memory}
use Rattle.vm_world.specs.State.{KernelState, Seats}
use Rattle.vm_world.specs.Wants.{WantsClean}
use Rattle.vm_world.specs.World.{World}
use Rattle.vm_world.specs.StateEntries.{MakesEntry}
use Rattle.vm_world.specs.MarksOf.{MarksOf, FailuresOf}
use Rattle.vm_world.specs.StateMarks.{PagesFit, MayRise, marks_risen}

-- The marks with those of these pages raised, one after another.
abbrev pub marks_all_risen : World → MarksSeen → List PageName → ℕ → MarksSeen
marks_all_risen w m [] j = m
marks_all_risen w m (name ∷ names) j = marks_all_risen w (marks_risen w m name j) names j

-- Each of these pages may be raised.
abbrev pub MayAllRise : World → List PageName → Type 0
MayAllRise w names = (i : ℕ) (name : PageName) → slice_get names i ≡ Some name → MayRise w name

-- Each of these is a page that the call wants clean.
abbrev pub AreWanted : Memory → ℕ → Call → List PageName → Type 0
AreWanted m p call names = (i : ℕ) (name : PageName) → slice_get names i ≡ Some name → WantsClean m p call name

-- Each page that the call wants clean is one of these.
abbrev pub AreWantedClean : Memory → ℕ → Call → List PageName → Type 0
AreWantedClean m p call names = (name : PageName) → WantsClean m p call name → (i : ℕ) × (slice_get names i ≡ Some name)

-- THE MARKS STAY TRUE as those of pages are raised; and with a Sync that answers, where those of each page that it wants clean were. So do the failures that
-- they name.
pub record StateSyncLaw : Type 0 where
  pub raised : (opening : Flat) (s : KernelState) (seats : Seats) (m : MarksSeen) (names : List PageName)
      → PagesFit opening s seats → MarksOf opening s seats m → MayAllRise s.memory.world names
      → MarksOf opening s seats (marks_all_risen s.memory.world m names (length s.history))
  pub answers : (opening : Flat) (s new : KernelState) (e : Entry) (seats : Seats) (m : MarksSeen) (b : ℕ) (names : List PageName)
      → PagesFit opening s seats → MarksOf opening s seats m → MakesEntry opening s e new seats
      → e.reply ≡ Synced b → b ≤ length s.history
      → MayAllRise s.memory.world names → AreWantedClean s.memory e.process e.call names
      → MarksOf opening new seats (marks_all_risen s.memory.world m names (length s.history))
  pub failures : (s : KernelState) (seats : Seats) (m : MarksSeen) (names : List PageName) (j : ℕ)
      → FailuresOf s seats m → FailuresOf s seats (marks_all_risen s.memory.world m names j)
