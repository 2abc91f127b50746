-- What a given order of turns does to a state and its lanes. Public clauses cite this.
use Rattle.std.specs.Prelude.{◌≡◌, ◌≤◌, ◌++◌, ◌-◌, ℕ, List, [], ◌∷◌, Some, map, take, drop, slice_get, slice_set}
use Rattle.fault_entry.specs.vm_types.declared.call.Entry.{Entry}
use Rattle.fault_entry.specs.flat_model.Told.{entries_of}
use Rattle.fault_entry.specs.vm_world.State.{KernelState}
use Rattle.lane_driver.specs.Lanes.{LaneSeen, lane_process}
use Rattle.lane_driver.specs.LaneTurns.{NextTakesMemory, TakesLaneTurn}

-- The lane of this number takes its turn; every other lane stays.
pub record StepsLane (number : ℕ) (s t : KernelState) (lanes new : List LaneSeen) : Type 0 where
  pub lane : LaneSeen
  pub after : LaneSeen
  pub there : slice_get lanes number ≡ Some lane
  pub turn : TakesLaneTurn s t lane after
  pub set : new ≡ slice_set lanes number after

-- THE ORDER: the lanes of these numbers take their turns, one behind the other.
abbrev pub Drives : List ℕ → KernelState → KernelState → List LaneSeen → List LaneSeen → Type 0
Drives [] s t lanes new = (t ≡ s) × (new ≡ lanes)
Drives (number ∷ order) s t lanes new = (mid : KernelState) × (between : List LaneSeen) × StepsLane number s mid lanes between × Drives order mid t between new

-- A front of the order was done, up to the turn of a lane with no transfer out, whose next call takes memory.
pub record DrivesFront (order : List ℕ) (s t : KernelState) (lanes new : List LaneSeen) : Type 0 where
  pub turns : ℕ
  pub number : ℕ
  pub at : slice_get order turns ≡ Some number
  pub drives : Drives (take turns order) s t lanes new
  pub lane : LaneSeen
  pub there : slice_get new number ≡ Some lane
  pub takes : NextTakesMemory lane

-- The history has grown, for the lane's process, by exactly the calls from its old number of calls that are done to its new one, in order; its calls stay.
pub record HasMadeCalls (s t : KernelState) (lane new : LaneSeen) : Type 0 where
  pub seat : new.seat ≡ lane.seat
  pub calls : new.calls ≡ lane.calls
  pub further : lane.done ≤ new.done
  pub added : List Entry
  pub grown : entries_of t.history (lane_process lane) ≡ entries_of s.history (lane_process lane) ++ added
  pub made : map (λ (e : Entry). e.call) added ≡ take (new.done - lane.done) (drop lane.done lane.calls)

-- The history has grown, for the process of each lane, by exactly the calls that the lane did
-- meanwhile.
abbrev pub HaveMadeCalls : KernelState → KernelState → List LaneSeen → List LaneSeen → Type 0
HaveMadeCalls s t lanes new = (k : ℕ) (lane after : LaneSeen) → slice_get lanes k ≡ Some lane → slice_get new k ≡ Some after → HasMadeCalls s t lane after
