-- A lane that is driven alone comes to its end. Public clauses cite this.
use Rattle.std.specs.Prelude.{◌≡◌, ◌≤◌, ◌+◌, ◌*◌, ℕ, List, [], ◌∷◌, IsSomeAnd}
use Rattle.fault_entry.specs.flat_model.Flat.{Flat}
use Rattle.fault_entry.specs.flat_model.OpenLaws.{last_entry, IsOpenPart}
use Rattle.fault_entry.specs.vm_world.Opening.{no_seats}
use Rattle.fault_entry.specs.vm_world.State.{KernelState}
use Rattle.fault_entry.specs.vm_world.StateFits.{StateFits}
use Rattle.lane_driver.specs.Lanes.{LaneSeen, calls_left, with_lanes}

-- One lane is alone: no seat but its own has a transfer under way, and no process has a read or a write between two parts.
pub record IsAlone (s : KernelState) (lane : LaneSeen) : Type 0 where
  pub opening : Flat
  pub fits : StateFits opening s (with_lanes no_seats (lane ∷ []))
  pub whole : (p f : ℕ) → ¬ IsSomeAnd (last_entry p s.history) (IsOpenPart f)

-- How many turns are enough for the calls that a lane has left, over so many frames: for each call two for each page that is modified and each page that it
-- wants, and some more.
abbrev pub turns_enough : ℕ → LaneSeen → ℕ
turns_enough frames lane = (2 * frames + 8) * calls_left lane

-- The only lane has no call left.
abbrev pub IsAllDone : List LaneSeen → Type 0
IsAllDone lanes = (new : LaneSeen) × (lanes ≡ new ∷ []) × (calls_left new ≡ 0)
