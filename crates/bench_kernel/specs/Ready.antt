-- What a process may do. Inside: no public clause cites this.
use Rattle.std.specs.Prelude.{◌<◌, ◌+◌, ℕ, IsSome, length}
use Rattle.std.specs.FinMap as finite
use Rattle.vm_types.specs.WellFormed.{IsWellFormed}
use Rattle.vm_types.specs.declared.call.Call.{Call}
use Rattle.vm_core.specs.flat_model.Told.{entries_of}
use Rattle.vm_core.specs.vm_world.State.{KernelState, room_of}

-- The call is well formed, and the process of the seat is alive and may make an entry more.
pub record MayMake (s : KernelState) (seat : ℕ) (call : Call) : Type 0 where
  pub formed : IsWellFormed call
  pub alive : IsSome (finite.get s.memory.spaces (seat + 1))
  pub room : length (entries_of s.history (seat + 1)) < room_of s.entries (seat + 1)
