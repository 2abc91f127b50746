-- Events that are steps of the world, without an entry. Public clauses cite this.
use Rattle.std.specs.Prelude.{◌≡◌, ◌<◌, ◌≤◌, ◌^◌, ◌||◌, ℕ, Bool, length, Option, Some, None}
use Rattle.page_store.specs.page_hash.declared.PageName.{PageName}
use Rattle.page_store.specs.Bays.{home, bay_at}
use Rattle.page_store.specs.Flight.{FlightSeen, IsPerformed}
use Rattle.page_store.specs.Notes.{Note}
use Rattle.flat_model.specs.Counted.{top_count}
use Rattle.flat_model.specs.Step.{is_bit_set}
use Rattle.vm_world.specs.Events.{IsEvent, CanTry}
use Rattle.vm_world.specs.MarksOf.{MaySend, marks_left, marks_ended}
use Rattle.vm_world.specs.Plans.{CanRunPlan, MayMeetFault}
use Rattle.vm_world.specs.State.{KernelState, KeptPlan, Caller, Sent}
use Rattle.vm_world.specs.World.{World}
use Rattle.vm_world.specs.WorldSteps.{stays, leaves, returns, WorldStep, tails_lost}

-- The state after a step of the world: these tails are pending then, and no plan is kept.
abbrev pub after_step : KernelState → World → ℕ → KernelState
after_step s new pending = record s { memory = record s.memory { world = new }; pending = pending; plan = None }

-- The state as a flight of a seat leaves: the marks change where it is the push of a file's page.
abbrev pub after_leaving : KernelState → World → ℕ → ℕ → Note → KernelState
after_leaving s new pending seat note = record (after_step s new pending) { marks = marks_left s.marks seat note (length s.history) }

-- The state as a flight of a seat comes back: the marks change where it is the push of a file's
-- page.
abbrev pub after_return : KernelState → World → ℕ → ℕ → Note → FlightSeen → KernelState
after_return s new pending seat note f = record (after_step s new pending) { marks = marks_ended s.marks seat note (length s.history) f }

-- The tails that were pending are, and those of the files whose last page the step took. Where no bit named a file past the last, none does.
pub record PendsTails (old : World) (cut : PageName → Bool) (pending more : ℕ) : Type 0 where
  pub bits : (f : ℕ) → f < length old.files.files → is_bit_set more f ≡ (is_bit_set pending f || tails_lost old cut f)
  pub below : pending < 2 ^ length old.files.files → more < 2 ^ length old.files.files

-- A flight comes back: what it did since it went, with its counts, none of which is past the end of counts; and its disk is home.
pub record ComesBack (note : Note) (f : FlightSeen) (new : World) : Type 0 where
  pub performed : IsPerformed note f
  pub disk : bay_at new.store.bays note.number ≡ home f.disk
  pub most : f.disk.faults ≤ top_count

-- A step of the world is an event of any seat, where nothing leaves or comes back, also where a plan is kept then that may be answered and can run; of
-- the seat that takes a flight out, where its plan was kept for the process and call that the flight is for; and of the seat whose flight comes back.
pub record StateRule : Type 0 where
  pub calm : (s : KernelState) (new : World) (cut : PageName → Bool) (pending seat : ℕ) (sent : Option Sent)
      → WorldStep s.memory.world new s.memory.spaces stays cut → PendsTails s.memory.world cut s.pending pending
      → IsEvent seat s sent (after_step s new pending) sent
  pub plans : (s : KernelState) (new : World) (cut : PageName → Bool) (pending : ℕ) (kept : KeptPlan)
      → WorldStep s.memory.world new s.memory.spaces stays cut → PendsTails s.memory.world cut s.pending pending
      → CanRunPlan (record s.memory { world = new }) kept.of kept.plan → kept.seat < length s.syncs
      → ((of : Caller) → kept.of ≡ Some of → CanTry s kept.seat of.0 of.1 × MayMeetFault (record s.memory { world = new }) of.0 of.1)
      → IsEvent kept.seat s None (record (after_step s new pending) { plan = Some kept }) None
  pub begins : (s : KernelState) (new : World) (cut : PageName → Bool) (pending seat : ℕ) (sent : Sent) (kept : KeptPlan)
      → WorldStep s.memory.world new s.memory.spaces (leaves seat sent.note) cut → PendsTails s.memory.world cut s.pending pending
      → s.plan ≡ Some kept → kept.seat ≡ seat → kept.of ≡ sent.of → MaySend s.memory.world sent.note
      → IsEvent seat s None (after_leaving s new pending seat sent.note) (Some sent)
  pub ends : (s : KernelState) (new : World) (cut : PageName → Bool) (pending seat : ℕ) (sent : Sent) (f : FlightSeen)
      → WorldStep s.memory.world new s.memory.spaces (returns seat sent.note) cut → PendsTails s.memory.world cut s.pending pending → ComesBack sent.note f new
      → IsEvent seat s (Some sent) (after_return s new pending seat sent.note f) None
