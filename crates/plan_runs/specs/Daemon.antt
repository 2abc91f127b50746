-- The turns that the pageout daemon makes beside the blocks of a plan. Public clauses cite this.
use Rattle.std.specs.Prelude.{◌≡◌, ℕ, length}
use Rattle.kernel_lock.specs.Seats.{newcomer}
use Rattle.vm_core.specs.vm_world.State.{KernelState}
use Rattle.vm_kernel.specs.Callers.{KernelSeen, CallerSeen}
use Rattle.block_runs.specs.Callers.{TurnsClock}

-- A kernel was started with this state, and its caller that is for no process made so many turns, from the first on.
pub record TurnsDaemon (s : KernelState) (turns : ℕ) : Type 0 where
  pub kernel : KernelSeen
  pub opening : kernel.opening ≡ s
  pub last : CallerSeen
  pub turned : TurnsClock kernel (record { seat = newcomer kernel (length s.entries); process = 0 }) turns last
