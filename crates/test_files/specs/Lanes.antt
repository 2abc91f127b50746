-- A state with lanes that may go on. Inside: no public clause cites this.
use Rattle.std.specs.Prelude.{◌≡◌, ◌<◌, ◌+◌, ◌^◌, ℕ, List, Some, None, slice_get}
use Rattle.vm_types.specs.declared.call.Call.{Call}
use Rattle.flat_model.specs.Flat.{Flat}
use Rattle.seg_ops.specs.vm_world.State.{KernelState, Seats}
use Rattle.seg_ops.specs.vm_world.StateFits.{StateFits}
use Rattle.lane_driver.specs.Lanes.{LaneSeen, AreLaneCalls, HaveOwnSeats, MayMakeCalls, with_lanes}

-- A lane of which no call is done.
abbrev pub new_lane : ℕ → List Call → LaneSeen
new_lane seat calls = record { seat = seat; calls = calls; done = 0; flight = None }

-- The seat's process may make these calls, as a lane does.
pub record MayBeLane (s : KernelState) (seat : ℕ) (calls : List Call) : Type 0 where
  pub low : seat + 1 < 2 ^ 32
  pub made : AreLaneCalls calls
  pub may : MayMakeCalls s (new_lane seat calls)

-- The state fits with what the lanes have outside; they have seats of their own; and each may make the calls that it has left.
pub record MayDrive (s : KernelState) (lanes : List LaneSeen) : Type 0 where
  pub fits : (opening : Flat) × (seats : Seats) × StateFits opening s (with_lanes seats lanes)
  pub own : HaveOwnSeats lanes
  pub may : (k : ℕ) (lane : LaneSeen) → slice_get lanes k ≡ Some lane → MayMakeCalls s lane
