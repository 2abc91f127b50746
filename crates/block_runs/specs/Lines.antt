-- The lines of a block and of those within it. Public clauses cite this.
use Rattle.std.specs.Prelude.{ℕ, ◌≡◌, ◌==◌, ◌+◌, ◌++◌, ◌⊎◌, ◌&&◌, Bool, true, false, List, [], ◌∷◌, Some, filter, if◌then◌else◌}
use Rattle.vm_script.specs.vm_types.declared.call.Call.TheVariants as call
use Rattle.vm_script.specs.declared.plan.PlanAct.{PlanAct}
use Rattle.vm_script.specs.declared.plan.PlanAct.TheVariants as act
use Rattle.vm_script.specs.declared.plan.PlanLine.{PlanLine}
use Rattle.vm_script.specs.Told.{parent_of}
use Rattle.vm_script.specs.Blocks.{IsProcessBlock}
use Rattle.vm_core.specs.Calls.{TakesMemory}
use Rattle.block_runs.specs.declared.lines.Step.{Step}
use Rattle.block_runs.specs.declared.lines.Step.TheVariants as step

-- The lines of a process.
abbrev pub own_of : ℕ → List PlanLine → List PlanLine
own_of p lines = filter (λ l. l.process == p) lines

-- The lines from the first one of the process on.
abbrev pub from_own : ℕ → List PlanLine → List PlanLine
from_own p [] = []
from_own p (l ∷ lines) = if l.process == p then l ∷ lines else from_own p lines

-- The process of the first line, or 0.
abbrev pub first_process : List PlanLine → ℕ
first_process [] = 0
first_process (l ∷ lines) = l.process

-- The act ends a block.
abbrev pub is_end : PlanAct → Bool
is_end (act.Call call.Exit) = true
is_end a = false

-- 1 where it is true, else 0.
abbrev pub one_if : Bool → ℕ
one_if b = if b then 1 else 0

-- How many blocks end in these lines.
abbrev pub ends_in : List PlanLine → ℕ
ends_in [] = 0
ends_in (l ∷ lines) = one_if (is_end l.act) + ends_in lines

-- What stands behind a line of p, by what the line does.
pub record ForksNext (parents : List ℕ) (p n m : ℕ) (rest : List PlanLine) (c : ℕ) : Type 0 where
  pub number : c ≡ n
  pub next : ℕ
  pub child : List PlanLine
  pub others : List PlanLine
  pub is : rest ≡ child ++ others
  pub parent : parent_of parents n ≡ Some p
  pub inside : IsProcessBlock parents n (n + 1) child next
  pub behind : IsProcessBlock parents p next others m

-- What stands behind a line in its block: a fork's child, the block's end, or the next line.
abbrev pub NextIs : List ℕ → ℕ → ℕ → ℕ → List PlanLine → PlanAct → Type 0
NextIs parents p n m rest (act.Call (call.Fork c)) = ForksNext parents p n m rest c
NextIs parents p n m rest (act.Call call.Exit) = (rest ≡ []) × (n ≡ m)
NextIs parents p n m rest a = IsProcessBlock parents p n rest m

-- A block's lines from here on: none, or the rest of the block, which begins with a line of its own.
abbrev pub StandsAt : List ℕ → ℕ → ℕ → List PlanLine → ℕ → Type 0
StandsAt parents p n lines m = ((lines ≡ []) × (n ≡ m)) ⊎ IsProcessBlock parents p n lines m

-- A line that is made by calls, and is no fork.
abbrev pub IsCallLine : PlanAct → Type 0
IsCallLine (act.Call (call.Fork c)) = ⊥
IsCallLine act.Wait = ⊥
IsCallLine a = Unit {0}

-- A line that names a file: a call with its file's name, or a write.
abbrev pub NamesFile : PlanAct → Type 0
NamesFile (act.Call call) = ⊥
NamesFile act.Wait = ⊥
NamesFile a = Unit {0}

-- A line of a call that takes memory.
abbrev pub LineTakesMemory : PlanAct → Type 0
LineTakesMemory (act.Call call) = TakesMemory call
LineTakesMemory (act.Named name call) = TakesMemory call
LineTakesMemory a = ⊥

-- What is to be done with a line: wait for children, fork, or make it.
abbrev pub step_of : PlanAct → Step
step_of act.Wait = step.Wait
step_of (act.Call (call.Fork c)) = step.Fork
step_of a = step.Line

-- The lines behind the end of a process.
abbrev pub behind_end : ℕ → List PlanLine → List PlanLine
behind_end p [] = []
behind_end p (l ∷ lines) = if (l.process == p) && is_end l.act then lines else behind_end p lines
