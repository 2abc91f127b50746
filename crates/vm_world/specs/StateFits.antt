-- When a state fits an opening. Public clauses cite this.
use Rattle.std.specs.Prelude.{◌≡◌, ◌<◌, ℕ, false, length, List, Some, None, IsSome}
use Rattle.flat_model.specs.vm_types.declared.call.Entry.{Entry}
use Rattle.flat_model.specs.vm_types.declared.call.Reply.{Reply}
use Rattle.page_store.specs.Steps.{next_frame}
use Rattle.page_store.specs.Transfers.{is_push}
use Rattle.page_store.specs.Waits.{Waits, plan_page}
use Rattle.flat_model.specs.Flat.{Flat, space_of}
use Rattle.flat_model.specs.OpenLaws.{MayFollow}
use Rattle.flat_model.specs.Step.{MayFail}
use Rattle.flat_model.specs.Told.{entries_of}
use Rattle.vm_world.specs.FlatMemory.{flat_memory}
use Rattle.vm_world.specs.HistoryFits.{HistoryFits, FaultsFit, CallsFit, RoomsFit, BirthsFit}
use Rattle.vm_world.specs.MarksOf.{MarksOf, FailuresOf}
use Rattle.vm_world.specs.MemoryFits.{MemoryFits}
use Rattle.vm_world.specs.NotesFit.{NotesFit}
use Rattle.vm_world.specs.State.{KernelState, Seats, Sent, Caller, KeptPlan, notes_of, seat_of, room_of}
use Rattle.vm_world.specs.Wants.{MayPlan}
use Rattle.vm_world.specs.World.{AllTell, world_table}

-- A plan or a transfer is for a seat's own process, which is alive and may make an entry more; its call may meet a device error; and it goes on with a
-- call that is between two parts.
pub record CallerFits (now : Flat) (H : List Entry) (entries : List ℕ) (seat : ℕ) (of : Caller) : Type 0 where
  pub own : seat_of of.0 ≡ seat
  pub alive : IsSome (space_of now of.0)
  pub room : length (entries_of H of.0) < room_of entries of.0
  pub fails : MayFail now of.0 of.1
  pub follows : (reply : Reply) (cleared : ℕ) → MayFollow H (record { process = of.0; call = of.1; reply = reply; cleared = cleared })

-- A kept plan is one that may be answered; its disk is home and its page isn't locked; a frame is there for a page that is read; and its seat is one of
-- the seats, and has nothing outside.
pub record PlanFits (s : KernelState) (seats : Seats) (kept : KeptPlan) : Type 0 where
  pub may : MayPlan s.memory kept.of kept.plan
  pub ready : Waits s.memory.world.store (plan_page kept.plan) (world_table s.memory.world (plan_page kept.plan)).disk None
  pub frame : is_push kept.plan ≡ false → IsSome (next_frame s.memory.world.store)
  pub seated : kept.seat < length s.syncs
  pub idle : seats kept.seat ≡ None

-- The kept plan fits, and so does each process and call that it or a transfer is for.
pub record PlansFit (s : KernelState) (seats : Seats) : Type 0 where
  pub plan : (kept : KeptPlan) → s.plan ≡ Some kept → PlanFits s seats kept
  pub planned : (kept : KeptPlan) (of : Caller) → s.plan ≡ Some kept → kept.of ≡ Some of
      → CallerFits (flat_memory s.memory s.born (notes_of seats)) s.history s.entries kept.seat of
  pub sent : (seat : ℕ) (sent : Sent) (of : Caller) → seats seat ≡ Some sent → sent.of ≡ Some of
      → CallerFits (flat_memory s.memory s.born (notes_of seats)) s.history s.entries seat of

-- THE FIT. A state fits an opening with what the seats have outside. The marks are true where the disks tell, and the counts that they name are of failures;
-- there is a push, or none, for each seat.
pub record StateFits (opening : Flat) (s : KernelState) (seats : Seats) : Type 0 where
  pub memory : MemoryFits s.memory
  pub notes : NotesFit s.memory.world (notes_of seats)
  pub replays : AllTell s.memory.world (notes_of seats) → HistoryFits opening s.history s.pending (flat_memory s.memory s.born (notes_of seats))
  pub faults : FaultsFit s.history s.memory.world.store.bays (notes_of seats)
  pub calls : CallsFit s.history s.calls s.syncs
  pub rooms : RoomsFit s.history s.parents s.entries
  pub births : BirthsFit s.history s.parents s.memory.spaces s.born
  pub plans : PlansFit s seats
  pub marks : MarksOf opening s seats s.marks
  pub failures : FailuresOf s seats s.marks
  pub pushes : length s.marks.pushes ≡ length s.syncs
