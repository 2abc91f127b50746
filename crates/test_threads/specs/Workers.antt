-- A caller that goes on with its process, for tests and measurements. Public clauses cite this.
use Rattle.std.specs.Prelude.{◌≡◌, ◌≤◌, ◌+◌, ◌||◌, ℕ, Bool, true, false, length, Option, Some, None, IsTrue, IsFalse}
use Rattle.std.specs.List.{list_any}
use Rattle.vm_core.specs.flat_model.Births.{is_birth}
use Rattle.vm_core.specs.flat_model.OpenLaws.{MayFollow}
use Rattle.vm_core.specs.vm_types.declared.call.Call.{Call}
use Rattle.vm_core.specs.vm_types.declared.call.Call.TheVariants.{Load, Store, Map, Unmap, Protect}
use Rattle.vm_core.specs.vm_types.declared.call.Entry.{Entry}
use Rattle.vm_core.specs.vm_world.HistoryFits.{has_left}
use Rattle.vm_core.specs.vm_world.State.{KernelState, Sent, is_top, process_parent, room_of}
use Rattle.vm_kernel.specs.Callers.{KernelSeen, CallerSeen, IsCallerOf}
use Rattle.test_threads.specs.declared.worker.Worker.{Worker}

-- The calls that a worker makes: those on its process's own space, but a Sync and the Exit.
abbrev pub IsTurnCall : Call → Type 0
IsTurnCall (Load a n) = Unit {0}
IsTurnCall (Store a n v) = Unit {0}
IsTurnCall (Map place len prot kind object offset) = Unit {0}
IsTurnCall (Unmap a len) = Unit {0}
IsTurnCall (Protect a len prot) = Unit {0}
IsTurnCall call = ⊥

-- A transfer that is in hand is for the call that was tried last.
abbrev pub IsForLast : ℕ → Option Call → Option Sent → Type 0
IsForLast p last None = Unit {0}
IsForLast p None (Some note) = ⊥
IsForLast p (Some call) (Some note) = (note.of ≡ Some (p, call)) × IsTurnCall call

-- What is known of a caller that goes on with its process p: its parent is q, or 0; it may make at least so many entries more; none of those that it made is an Exit, or
-- a part that doesn't end its call; where it is alive, its birth was seen, if it had one; and where it made no Fork, it bore no child.
pub record IsWorking (o : KernelState) (c : CallerSeen) (p q n : ℕ) (alive forked : Bool) (last : Option Call) : Type 0 where
  pub process : c.process ≡ p
  pub parent : process_parent o.parents p ≡ Some q
  pub born : alive ≡ true → IsTrue (is_top o.parents p || list_any (is_birth p) c.seat.seen)
  pub here : IsFalse (has_left p c.seat.own)
  pub left : length c.seat.own + n ≤ room_of o.entries p
  pub follows : (e : Entry) → MayFollow c.seat.own e
  pub childless : forked ≡ false → (child : ℕ) → IsFalse (list_any (is_birth child) c.seat.own)
  pub hand : IsForLast p last c.seat.note

-- A WORKER's caller is one of this kernel's, and goes on with the worker's process.
abbrev pub IsWorker : {D : Type 0} → KernelSeen → Worker D → Type 0
IsWorker k w = IsCallerOf k w.caller × IsWorking k.opening w.caller w.process w.parent w.left w.is_alive w.has_forked w.last

-- A worker with the seat of this number.
abbrev pub IsWorkerAt : {D : Type 0} → KernelSeen → ℕ → Worker D → Type 0
IsWorkerAt k n w = IsWorker k w × (w.caller.seat.number ≡ n)

-- Two workers and a third caller of one kernel, in the order of their seats; the third, which moves the clock, has nothing in hand.
pub record AreTrialCallers {D : Type 0} (k : KernelSeen) (a b : Worker D) (c : CallerSeen) : Type 0 where
  pub seats : k.seats ≡ 3
  pub first : IsWorkerAt k 0 a
  pub second : IsWorkerAt k 1 b
  pub clock : IsCallerOf k c × (c.seat.number ≡ 2)
  pub free : c.seat.note ≡ None
