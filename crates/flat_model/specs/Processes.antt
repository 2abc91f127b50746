-- Fork and Exit. Public clauses cite this.
use Rattle.std.specs.Prelude.{ℕ, ◌+◌, nat_le}
use Rattle.std.specs.FinMap as map
use Rattle.std.specs.FinSet as set
use Rattle.vm_types.specs.declared.call.Errno.TheVariants as errno
use Rattle.flat_model.specs.Flat.{Flat, private_cells, without_unnamed, reserved}
use Rattle.flat_model.specs.Mapping.{cells_of}
use Rattle.flat_model.specs.Refusals.{check, Effect, or_refused, done_effect}

-- Flat memory with a child that has a copy of its parent's space.
abbrev pub with_child : Flat → ℕ → ℕ → Flat
with_child F p child = record F { spaces = map.insert F.spaces child (cells_of F p); born = set.insert F.born child }

-- A Fork is refused NoSwap where what is reserved and the parent's private cells once more are more than the slots.
abbrev pub fork : Flat → ℕ → ℕ → Effect
fork F p child = or_refused F (λ _. done_effect (with_child F p child)) (check (nat_le (reserved F + private_cells (cells_of F p)) F.slots) errno.NoSwap)

-- Flat memory without a process.
abbrev pub without_process : Flat → ℕ → Flat
without_process F p = without_unnamed (record F { spaces = map.remove F.spaces p })

-- An Exit takes the process away.
abbrev pub exit : Flat → ℕ → Effect
exit F p = done_effect (without_process F p)
