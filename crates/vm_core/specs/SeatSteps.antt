-- What a seat does with the state in one step: it tries a call or moves a hand of the clock, and begins the transfer that this asks for; or it ends a
-- transfer. Public clauses cite this.
use Rattle.std.specs.Prelude.{◌≡◌, ℕ, Option, Some, None, length, option_map}
use Rattle.clock_hands.specs.Clock.{ClockMoves, after_hand, kept_of_clock}
use Rattle.fault_entry.specs.page_hash.Names.{is_name}
use Rattle.fault_entry.specs.page_store.Bays.{bay_at, home}
use Rattle.fault_entry.specs.page_store.Flight.{FlightSeen, IsPerformed, note_of}
use Rattle.fault_entry.specs.page_store.Notes.{Note}
use Rattle.fault_entry.specs.page_store.Steps.{next_name}
use Rattle.fault_entry.specs.page_store.Transfers.{BeginsTransfer, EndsTransfer}
use Rattle.fault_entry.specs.page_store.Waits.{plan_page}
use Rattle.fault_entry.specs.page_store.declared.plan.Plan.{Plan}
use Rattle.fault_entry.specs.seg_ops.Flights.{BeginsFor}
use Rattle.fault_entry.specs.seg_vn.declared.attempt.Attempt.{Attempt}
use Rattle.fault_entry.specs.seg_vn.declared.attempt.Attempt.TheVariants.{Done, Need, Busy}
use Rattle.fault_entry.specs.vm_types.declared.call.Call.{Call}
use Rattle.fault_entry.specs.vm_types.declared.call.Reply.{Reply}
use Rattle.fault_entry.specs.vm_world.Events.{IsEvent}
use Rattle.fault_entry.specs.vm_world.State.{KernelState, Sent, Caller}
use Rattle.fault_entry.specs.vm_world.StateSteps.{PendsTails, after_step}
use Rattle.vm_core.specs.Answered.{MarksAfterCall}
use Rattle.vm_core.specs.Calls.{AnswersCall, IsShownAfterCall, SlotsAfterCall, IsHitAfterCall}
use Rattle.vm_core.specs.Flights.{EndsWith, KeepsButPushed, answer_at_end, places_begun, store_ready}
use Rattle.vm_core.specs.Marks.{marks_departed, marks_landed}

-- THE TRY OF A CALL of a process at its seat: it is one event; what is answered; that the mechanisms are real; and the marks.
pub record AnswersTry (old new : KernelState) (seat p : ℕ) (call : Call) (a : Attempt) : Type 0 where
  pub answers : AnswersCall old new seat p call a
  pub shown : IsShownAfterCall new.memory p call a
  pub slots : SlotsAfterCall old.memory new.memory.world p call a
  pub hit : IsHitAfterCall old.memory new.memory.world p call a
  pub event : IsEvent seat old None new None
  pub marks : MarksAfterCall old new p call a

-- A transfer of a plan goes out: the flight, and what of the state goes with it.
pub record SendsFlight (s t : KernelState) (seat : ℕ) (plan : Plan) (f : FlightSeen) : Type 0 where
  pub flight : BeginsFor s.memory.world seat plan f
  pub store : BeginsTransfer (store_ready s.memory.world plan) t.memory.world.store plan (plan_page plan) f
  pub places : t.memory.world.hat.places ≡ places_begun s.memory.world plan
  pub tables : KeepsButPushed s.memory.world t.memory.world plan
  pub pends : PendsTails s.memory.world (is_name (next_name s.memory.world.store)) s.pending t.pending
  pub marks : t.marks ≡ marks_departed s.marks seat f (length s.history)
  pub rest : t ≡ record (after_step s t.memory.world t.pending) { marks = t.marks }

-- What a seat has outside once a flight left for this process and call, or for none.
abbrev pub sent_along : FlightSeen → Option Caller → Sent
sent_along f of = record { note = note_of f; of = of }

-- What follows a try, and the transfer that is out then: nothing; or where the call needs a transfer, that one goes out.
abbrev pub AfterTry : KernelState → KernelState → ℕ → Attempt → Option FlightSeen → Type 0
AfterTry mid t seat (Done reply) flight = (t ≡ mid) × (flight ≡ None)
AfterTry mid t seat (Busy h) flight = (t ≡ mid) × (flight ≡ None)
AfterTry mid t seat (Need plan) flight = (f : FlightSeen) × (flight ≡ Some f) × SendsFlight mid t seat plan f

-- A CALL IS TRIED by a seat that has no transfer out, and nothing else happens but that the transfer begins that it needs.
pub record TriesNext (s t : KernelState) (seat p : ℕ) (call : Call) (a : Attempt) (flight : Option FlightSeen) : Type 0 where
  pub mid : KernelState
  pub tries : AnswersTry s mid seat p call a
  pub goes : AfterTry mid t seat a flight

-- What follows a move of a hand, and the transfer that is out then: nothing; or where it asks for a push, that one goes out.
abbrev pub AfterMove : KernelState → KernelState → ℕ → Option Plan → Option FlightSeen → Type 0
AfterMove mid t seat None flight = (t ≡ mid) × (flight ≡ None)
AfterMove mid t seat (Some plan) flight = (f : FlightSeen) × (flight ≡ Some f) × SendsFlight mid t seat plan f

-- A HAND OF THE CLOCK MOVES at a seat that has no transfer out, and nothing else happens but that the push begins that it asks for.
pub record TurnsHand (s t : KernelState) (seat : ℕ) (flight : Option FlightSeen) : Type 0 where
  pub mid : KernelState
  pub answer : Option Plan
  pub moves : ClockMoves s.memory.world mid.memory.world answer
  pub rest : mid ≡ after_hand s mid.memory.world (option_map (kept_of_clock seat) answer)
  pub goes : AfterMove mid t seat answer flight

-- The transfer of a note was made, and ends: what comes back, its disk home, the store where that leaves it, and that nothing else of memory changes.
pub record ReturnsFlight (s t : KernelState) (note : Note) : Type 0 where
  pub back : FlightSeen
  pub performed : IsPerformed note back
  pub disk : bay_at t.memory.world.store.bays back.number ≡ home back.disk
  pub ends : EndsTransfer s.memory.world.store t.memory.world.store back
  pub world : t.memory.world ≡ record s.memory.world { store = t.memory.world.store }
  pub spaces : t.memory.spaces ≡ s.memory.spaces

-- A TRANSFER ENDS that a seat had out, for this process and call or for none: what comes back, and what is answered. Where it failed and was for a call, that
-- is the device error with its own counts, and the entry that this makes is the only one; else nothing is.
pub record LandsFlight (s t : KernelState) (seat : ℕ) (note : Note) (of : Option Caller) (answer : Option Reply) : Type 0 where
  pub comes : ReturnsFlight s t note
  pub tells : answer ≡ answer_at_end comes.back of
  pub entry : EndsWith s t of answer
  pub marks : t.marks ≡ marks_landed s.marks seat comes.back (length s.history)
  pub plan : t.plan ≡ None
