-- A plan as its lists. Public clauses cite this.
use Rattle.std.specs.Prelude.{ℕ, List}
use Rattle.vm_script.specs.declared.plan.SetupLine.{SetupLine}
use Rattle.vm_script.specs.declared.plan.PlanLine.{PlanLine}

-- The set-up lines, the lines of all blocks in the order of the script, and at place p - 1 the parent of process p,
-- 0 for a top block.
pub record PlanSeen : Type 0 where
  pub setup : List SetupLine
  pub lines : List PlanLine
  pub parents : List ℕ
