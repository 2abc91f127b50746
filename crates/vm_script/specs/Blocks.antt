-- How the blocks of a plan lie in its lines. Public clauses cite this.
use Rattle.std.specs.Prelude.{ℕ, ◌⊎◌, ◌≡◌, ◌==◌, ◌≤◌, ◌<◌, ◌+◌, List, [], ◌∷◌, ◌++◌, length, filter, Some}
use Rattle.flat_model.specs.vm_types.declared.call.Call.TheVariants as call
use Rattle.vm_script.specs.declared.plan.PlanAct.{PlanAct}
use Rattle.vm_script.specs.declared.plan.PlanAct.TheVariants as act
use Rattle.vm_script.specs.declared.plan.PlanLine.{PlanLine}
use Rattle.vm_script.specs.PlanSeen.{PlanSeen}
use Rattle.vm_script.specs.Told.{parent_of, own_lines}

-- A line that neither forks nor ends its block.
abbrev pub IsInner : PlanAct → Type 0
IsInner (act.Call (call.Fork child)) = ⊥
IsInner (act.Call call.Exit) = ⊥
IsInner a = Unit {0}

-- The lines of the block p, from its first to its Exit. Behind each Fork stand the lines of the child's whole block. The
-- blocks that begin among these lines have the numbers from `next` on and below `after`, in the order in which they
-- begin, and each has for parent the block whose Fork begins it.
pub data IsProcessBlock (parents : List ℕ) : ℕ → ℕ → List PlanLine → ℕ → Type 0 where
  ends : (p n line : ℕ) → IsProcessBlock parents p n (record { line = line; process = p; act = act.Call call.Exit } ∷ []) n
  goes_on : (p n m line : ℕ) (a : PlanAct) (lines : List PlanLine) → IsInner a → IsProcessBlock parents p n lines m
      → IsProcessBlock parents p n (record { line = line; process = p; act = a } ∷ lines) m
  forks : (p n k m line : ℕ) (child lines : List PlanLine) → parent_of parents n ≡ Some p → IsProcessBlock parents n (n + 1) child k → IsProcessBlock parents p k lines m
      → IsProcessBlock parents p n (record { line = line; process = p; act = act.Call (call.Fork n) } ∷ (child ++ lines)) m

-- Top blocks one behind the other, numbered from `next` on and below `after`.
pub data AreProcessBlocks (parents : List ℕ) : ℕ → List PlanLine → ℕ → Type 0 where
  over : (n : ℕ) → AreProcessBlocks parents n [] n
  block : (n k m : ℕ) (lines rest : List PlanLine) → parent_of parents n ≡ Some 0 → IsProcessBlock parents n (n + 1) lines k → AreProcessBlocks parents k rest m
      → AreProcessBlocks parents n (lines ++ rest) m

-- The blocks of a plan nest, and are numbered from 1 in preorder.
abbrev pub Nests : PlanSeen → Type 0
Nests plan = AreProcessBlocks plan.parents 1 plan.lines (length plan.parents + 1)

-- The line is the block p's own, or of a block numbered from n on and below m.
abbrev pub IsWithin : ℕ → ℕ → ℕ → PlanLine → Type 0
IsWithin p n m l = (l.process ≡ p) ⊎ ((n ≤ l.process) × (l.process < m))

-- Where the line is a Fork, it is a line of its child's parent.
abbrev pub IsForkOfParent : List ℕ → PlanLine → Type 0
IsForkOfParent parents l = (c : ℕ) → l.act ≡ act.Call (call.Fork c) → parent_of parents c ≡ Some l.process

-- The lines of the block p, those of its descendants among them, stand together in the plan, and no other line is p's.
pub record StandsTogether (plan : PlanSeen) (p : ℕ) : Type 0 where
  pub before : List PlanLine
  pub block : List PlanLine
  pub behind : List PlanLine
  pub next : ℕ
  pub is : before ++ (block ++ behind) ≡ plan.lines
  pub whole : IsProcessBlock plan.parents p (p + 1) block next
  pub own : own_lines plan p ≡ filter (λ l. l.process == p) block
