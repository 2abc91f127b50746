-- What the reply to a Fork leaves of the state, before its entry is made. Inside: no public clause cites this.
use Rattle.std.specs.Prelude.{ℕ, ◌-◌, List, Option, None, slice_set}
use Rattle.std.specs.FinSet as set
use Rattle.std.specs.Ordering.{nat_cmp}
use Rattle.fault_entry.specs.vm_types.declared.call.Reply.{Reply}
use Rattle.fault_entry.specs.vm_types.declared.call.Reply.TheVariants as reply
use Rattle.fault_entry.specs.vm_world.FlatMemory.{Memory}
use Rattle.fault_entry.specs.vm_world.State.{KernelState}
use Rattle.fault_entry.specs.vm_world.declared.sync_start.SyncStart.{SyncStart}

-- Who was ever alive then: where the Fork is done, its child too.
abbrev pub born_after : set.FinSet nat_cmp → ℕ → Reply → set.FinSet nat_cmp
born_after born child reply.Done = set.insert born child
born_after born child answer = born

-- Where Syncs began: of a child that is born none has.
abbrev pub starts_after : List (Option SyncStart) → ℕ → Reply → List (Option SyncStart)
starts_after syncs child reply.Done = slice_set syncs (child - 1) None
starts_after syncs child answer = syncs

-- The state with the memory that the Fork left.
abbrev pub after_fork : KernelState → Memory → ℕ → Reply → KernelState
after_fork s m child answer = record s { memory = m; born = born_after s.born child answer; syncs = starts_after s.syncs child answer }
