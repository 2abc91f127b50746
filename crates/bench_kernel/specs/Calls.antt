-- Callers that may go on. Inside: the crate has no public clause.
use Rattle.std.specs.Prelude.{◌≡◌, ◌<◌, ℕ, suc, true, false, List, [], length, replicate, Option, None, slice_index_or}
use Rattle.vm_core.specs.flat_model.Flat.{Flat}
use Rattle.vm_core.specs.vm_types.declared.call.Call.{Call}
use Rattle.vm_core.specs.vm_world.Opening.{no_seats}
use Rattle.vm_core.specs.vm_world.State.{KernelState}
use Rattle.vm_core.specs.vm_world.StateFits.{StateFits}
use Rattle.vm_kernel.specs.Callers.{KernelSeen, CallerSeen, IsCallerOf}
use Rattle.vm_kernel.specs.declared.starting.Room.{Room}
use Rattle.test_threads.specs.Workers.{IsWorking}

-- The rooms of so many processes, in their order, each with so many entries.
pub record AreFirstRooms (n entries : ℕ) (rooms : List Room) : Type 0 where
  pub count : length rooms ≡ n
  pub each : (k : ℕ) (d : Room) → k < n → slice_index_or rooms k d ≡ record { process = suc k; entries = entries }

-- The state of so many processes without a parent, each of which may make so many entries, and as many seats; nothing happened yet.
pub record BeginsWith (n most : ℕ) (s : KernelState) : Type 0 where
  pub fits : (F : Flat) × StateFits F s no_seats
  pub parents : s.parents ≡ replicate n 0
  pub entries : s.entries ≡ replicate n most
  pub seats : length s.syncs ≡ n
  pub empty : s.history ≡ []

-- A caller of this kernel that has nothing in hand, and may make so many calls more.
pub record HasCalls (k : KernelSeen) (n : ℕ) (c : CallerSeen) : Type 0 where
  pub of : IsCallerOf k c
  pub free : c.seat.note ≡ None
  pub process : ℕ
  pub parent : ℕ
  pub last : Option Call
  pub working : IsWorking k.opening c process parent n true false last

-- Callers of all seats of the kernel, in their order, each of which may.
pub record AllHaveCalls (k : KernelSeen) (n : ℕ) (cs : List CallerSeen) : Type 0 where
  pub count : length cs ≡ k.seats
  pub each : (i : ℕ) (d : CallerSeen) → i < length cs → HasCalls k n (slice_index_or cs i d)
  pub order : (i : ℕ) (d : CallerSeen) → i < length cs → (slice_index_or cs i d).seat.number ≡ i
