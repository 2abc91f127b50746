-- What is known as the kernel is closed. Public clauses cite this.
use Rattle.std.specs.Prelude.{ℕ, ◌≡◌, List, [], None}
use Rattle.std.specs.List.{AllByRecursion}
use mathlib.Core.List.{IsPrefix}
use Rattle.vm_script.specs.vm_types.declared.call.Entry.{Entry}
use Rattle.vm_script.specs.flat_model.Told.{entries_of}
use Rattle.vm_script.specs.PlanSeen.{PlanSeen}
use Rattle.vm_script.specs.Told.{parent_of}
use Rattle.vm_script.specs.Ended.{KeepsTree}
use Rattle.vm_kernel.specs.Callers.{CallerSeen}

-- The history begins with what the caller had seen, and has of its entries just those that it made.
pub record IsKept (H : List Entry) (v : CallerSeen) : Type 0 where
  pub begun : IsPrefix v.seat.seen H
  pub own : entries_of v.seat.seen v.process ≡ entries_of H v.process

-- The history holds to all callers; each Fork in it is its child's parent's; and no other process has an entry.
pub record IsClosedRow (plan : PlanSeen) (H : List Entry) (row : List CallerSeen) : Type 0 where
  pub kept : AllByRecursion (IsKept H) row
  pub tree : KeepsTree plan H
  pub others : (p : ℕ) → parent_of plan.parents p ≡ None → entries_of H p ≡ []
