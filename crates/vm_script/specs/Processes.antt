-- Who the kernel's processes are. Public clauses cite this.
use Rattle.std.specs.Prelude.{ℕ, List}
use Rattle.vm_script.specs.PlanSeen.{PlanSeen}

-- At place p - 1 the parent of the kernel's process p, 0 for one that the start makes: the processes are the plan's blocks.
abbrev pub kernel_parents : PlanSeen → List ℕ
kernel_parents plan = plan.parents
