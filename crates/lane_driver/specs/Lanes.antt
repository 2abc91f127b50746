-- Lanes: who makes which calls, and what each has outside the state. Public clauses cite this.
use Rattle.std.specs.Prelude.{◌≡◌, ◌≢◌, ◌<◌, ◌≤◌, ◌+◌, ◌-◌, ℕ, suc, Bool, List, [], ◌∷◌, Option, Some, None, length, IfSome, IsSomeAnd, slice_get, option_map, if◌then◌else◌}
use Rattle.fault_entry.specs.vm_types.Pages.{line_rest}
use Rattle.fault_entry.specs.vm_types.WellFormed.{IsWellFormed}
use Rattle.fault_entry.specs.vm_types.declared.call.Call.{Call}
use Rattle.fault_entry.specs.vm_types.declared.call.Call.TheVariants.{Read, Write, Fork, Exit}
use Rattle.fault_entry.specs.flat_model.OpenLaws.{last_entry, IsOpenPart}
use Rattle.fault_entry.specs.flat_model.Told.{entries_of}
use Rattle.fault_entry.specs.page_store.Flight.{FlightSeen, fresh, note_of}
use Rattle.fault_entry.specs.vm_world.SeatLaws.{IsKnownAlive}
use Rattle.fault_entry.specs.vm_world.State.{KernelState, Sent, Seats, room_of, with_sent}

-- A lane: its seat, whose process has the next number; its calls; how many of these are done; and its transfer, where one is out.
pub record LaneSeen : Type 0 where
  pub seat : ℕ
  pub calls : List Call
  pub done : ℕ
  pub flight : Option FlightSeen

-- The process of a lane: that of its seat.
abbrev pub lane_process : LaneSeen → ℕ
lane_process lane = lane.seat + 1

-- The call of a lane that is next; none where all are done.
abbrev pub next_call : LaneSeen → Option Call
next_call lane = slice_get lane.calls lane.done

-- How many calls of a lane are left, the next one among them.
abbrev pub calls_left : LaneSeen → ℕ
calls_left lane = length lane.calls - lane.done

-- The lane once so much was done: one call more or none, and with this transfer out.
abbrev pub lane_after : LaneSeen → Bool → Option FlightSeen → LaneSeen
lane_after lane done flight = record lane { done = if done then suc lane.done else lane.done; flight = flight }

-- A part of a read or a write lies inside one line, and nothing of its call follows it.
abbrev pub LiesInOneLine : Call → Type 0
LiesInOneLine (Read file offset len) = len ≤ line_rest offset
LiesInOneLine (Write file offset line rest) = rest ≡ 0
LiesInOneLine call = Unit {0}

-- A call that a lane may have.
pub record IsLaneCall (call : Call) : Type 0 where
  pub formed : IsWellFormed call
  pub line : LiesInOneLine call
  pub plain : (child : ℕ) → call ≢ Fork child

-- The calls of a lane: each is one that a lane may have, and an Exit is the last.
pub record AreLaneCalls (calls : List Call) : Type 0 where
  pub each : (k : ℕ) (call : Call) → slice_get calls k ≡ Some call → IsLaneCall call
  pub last : (k : ℕ) → slice_get calls k ≡ Some Exit → suc k ≡ length calls

-- What a seat has outside the state with a transfer for a call of its process.
abbrev pub sent_for : ℕ → Call → FlightSeen → Sent
sent_for seat call f = record { note = note_of f; of = Some (seat + 1, call) }

-- What a seat has outside with this transfer, if it has one, for its next call; none where no call
-- is left.
abbrev pub sent_by : ℕ → Option FlightSeen → Option Call → Option Sent
sent_by seat flight None = None
sent_by seat flight (Some call) = option_map (sent_for seat call) flight

-- What a lane has outside: its transfer, for its next call.
abbrev pub lane_sent : LaneSeen → Option Sent
lane_sent lane = sent_by lane.seat lane.flight (next_call lane)

-- What all seats have outside, where those of the lanes have what these have.
abbrev pub with_lanes : Seats → List LaneSeen → Seats
with_lanes seats [] = seats
with_lanes seats (lane ∷ lanes) = with_sent (with_lanes seats lanes) lane.seat (lane_sent lane)

-- No two lanes have one seat.
abbrev pub HaveOwnSeats : List LaneSeen → Type 0
HaveOwnSeats lanes = (i j : ℕ) (one two : LaneSeen) → slice_get lanes i ≡ Some one → slice_get lanes j ≡ Some two → one.seat ≡ two.seat → i ≡ j

-- The lane's process has no read or write between two parts, and may make as many entries as the lane has calls left; and as long as one is left it is alive:
-- it has no parent or was born, and made no Exit.
pub record MayMakeCalls (s : KernelState) (lane : LaneSeen) : Type 0 where
  pub whole : (f : ℕ) → ¬ IsSomeAnd (last_entry (lane_process lane) s.history) (IsOpenPart f)
  pub room : length (entries_of s.history (lane_process lane)) + calls_left lane ≤ room_of s.entries (lane_process lane)
  pub alive : 1 ≤ calls_left lane → IsKnownAlive s.parents s.history (entries_of s.history (lane_process lane)) (lane_process lane)

-- What holds of every lane: its calls may be a lane's, no more are done than there are, and a transfer that is out is that of its seat, wasn't made yet, and is
-- for a call that is left.
pub record IsSoundLane (seat : ℕ) (calls : List Call) (done : ℕ) (flight : Option FlightSeen) : Type 0 where
  pub made : AreLaneCalls calls
  pub few : done ≤ length calls
  pub out : IfSome flight (λ f. (f.seat ≡ seat) × (f.outcome ≡ fresh) × (done < length calls))
