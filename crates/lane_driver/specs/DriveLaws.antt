-- What every order of turns keeps, and that a lane which is alone comes to its end. Public clauses cite this.
use Rattle.std.specs.Prelude.{◌≡◌, ◌≤◌, ℕ, List, [], ◌∷◌, length}
use Rattle.fault_entry.specs.flat_model.Flat.{Flat}
use Rattle.fault_entry.specs.vm_world.State.{KernelState, Seats}
use Rattle.fault_entry.specs.vm_world.StateFits.{StateFits}
use Rattle.lane_driver.specs.Alone.{IsAlone, IsAllDone, turns_enough}
use Rattle.lane_driver.specs.Drives.{Drives, HaveMadeCalls}
use Rattle.lane_driver.specs.Lanes.{LaneSeen, HaveOwnSeats, with_lanes}

-- The lanes of these numbers took their turns, one behind the other. Where the lanes have seats of their own, the state fits what it fitted, with what the lanes
-- have outside then; and each lane's process made exactly the calls that the lane counts. And a lane that is alone is done with all its calls, where there are turns enough.
pub record DriveLaw : Type 0 where
  pub fits : (order : List ℕ) (s t : KernelState) (lanes new : List LaneSeen) (opening : Flat) (seats : Seats) → Drives order s t lanes new → HaveOwnSeats lanes
      → StateFits opening s (with_lanes seats lanes) → StateFits opening t (with_lanes seats new)
  pub made : (order : List ℕ) (s t : KernelState) (lanes new : List LaneSeen) → Drives order s t lanes new → HaveOwnSeats lanes → HaveMadeCalls s t lanes new
  pub alone : (order : List ℕ) (s t : KernelState) (lane : LaneSeen) (new : List LaneSeen) → IsAlone s lane → turns_enough (length s.memory.world.store.frames) lane ≤ length order
      → Drives order s t (lane ∷ []) new → IsAllDone new
