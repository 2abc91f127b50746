-- What the holder of the state knows of it. Public clauses cite this.
use Rattle.std.specs.Prelude.{◌≡◌, ℕ, Option}
use Rattle.fault_entry.specs.flat_model.Flat.{Flat}
use Rattle.fault_entry.specs.vm_world.State.{KernelState, Seats, Sent}
use Rattle.fault_entry.specs.vm_world.StateFits.{StateFits}

-- The state fits some opening, with this outside at the seat, and whatever the other seats have.
abbrev pub FitsAt : KernelState → ℕ → Option Sent → Type 0
FitsAt s seat sent = (opening : Flat) × (seats : Seats) × StateFits opening s seats × (seats seat ≡ sent)
