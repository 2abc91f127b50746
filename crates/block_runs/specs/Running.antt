-- How far a block has come, by what its caller has seen. `seen` is what each block's caller has seen in the end. Public clauses cite this.
use Rattle.std.specs.Prelude.{ℕ, ◌≡◌, ◌++◌, true, List, ◌∷◌}
use Rattle.std.specs.List.{list_any, AllByRecursion}
use mathlib.Core.List.{IsPrefix}
use Rattle.vm_script.specs.vm_types.declared.call.Entry.{Entry}
use Rattle.vm_script.specs.flat_model.Told.{entries_of}
use Rattle.vm_script.specs.flat_model.Births.{is_birth}
use Rattle.vm_script.specs.declared.plan.PlanAct.TheVariants as act
use Rattle.vm_script.specs.declared.plan.PlanLine.{PlanLine}
use Rattle.vm_script.specs.Told.{Spell, Forks}

-- Behind these lines p met the children that they forked: it had seen a history in which it had made just their
-- entries, and which begins with all that each of those children had seen.
pub record HasMetChildren (seen : ℕ → List Entry) (p : ℕ) (S : List Entry) (lines : List PlanLine) : Type 0 where
  pub cut : List Entry
  pub begun : IsPrefix cut S
  pub own : Spell lines (entries_of cut p)
  pub children : (c : ℕ) → Forks lines c → IsPrefix (seen c) cut

-- The block p, whose caller has seen S, made these lines: its entries spell them, it met its children at each wait, it has
-- met them all, and each child that was born was run.
pub record HasRun (seen : ℕ → List Entry) (p : ℕ) (S : List Entry) (lines : List PlanLine) : Type 0 where
  pub own : Spell lines (entries_of S p)
  pub waits : (before after : List PlanLine) (wait : PlanLine) → lines ≡ before ++ wait ∷ after → wait.act ≡ act.Wait → HasMetChildren seen p S before
  pub children : (c : ℕ) → Forks lines c → IsPrefix (seen c) S
  pub bore : (c : ℕ) → list_any (is_birth c) (entries_of S p) ≡ true → IsPrefix (seen c) S × (list_any (is_birth c) (seen c) ≡ true)

-- The line is no wait.
abbrev pub IsNoWait : PlanLine → Type 0
IsNoWait l = l.act ≡ act.Wait → ⊥

-- From S to T the block p made these lines, none of which is a wait.
pub record RunsOn (seen : ℕ → List Entry) (p : ℕ) (S T : List Entry) (lines : List PlanLine) : Type 0 where
  pub begun : IsPrefix S T
  pub es : List Entry
  pub grown : entries_of T p ≡ entries_of S p ++ es
  pub own : Spell lines es
  pub plain : AllByRecursion IsNoWait lines
  pub children : (c : ℕ) → Forks lines c → IsPrefix (seen c) T
  pub bore : (c : ℕ) → list_any (is_birth c) es ≡ true → IsPrefix (seen c) T × (list_any (is_birth c) (seen c) ≡ true)
