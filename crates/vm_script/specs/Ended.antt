-- What is known of each block that has ended, by what its caller has seen of the history. Public clauses cite this.
use Rattle.std.specs.Prelude.{ℕ, ◌≡◌, true, false, List, [], ◌∷◌, ◌++◌, Some}
use mathlib.Core.List.{IsPrefix}
use Rattle.flat_model.specs.vm_types.declared.call.Entry.{Entry}
use Rattle.flat_model.specs.Told.{entries_of}
use Rattle.vm_script.specs.declared.plan.PlanAct.TheVariants as act
use Rattle.vm_script.specs.declared.plan.PlanLine.{PlanLine}
use Rattle.vm_script.specs.PlanSeen.{PlanSeen}
use Rattle.vm_script.specs.Told.{Spell, parent_of, is_born, is_birth, Forks}

-- Each Fork is an entry of its child's parent, and its child is a block of the plan.
abbrev pub KeepsTree : PlanSeen → List Entry → Type 0
KeepsTree plan [] = Unit {0}
KeepsTree plan (e ∷ H) = ((c : ℕ) → is_birth c e ≡ true → parent_of plan.parents c ≡ Some e.process) × KeepsTree plan H

-- Behind these lines p met the children that they forked: it had seen a history in which it had made just their
-- entries, and which begins with all that each of those children had seen.
pub record Met (plan : PlanSeen) (H : List Entry) (seen : ℕ → List Entry) (p : ℕ) (lines : List PlanLine) : Type 0 where
  pub cut : List Entry
  pub begun : IsPrefix cut (seen p)
  pub own : Spell lines (entries_of cut p)
  pub children : (c : ℕ) → Forks lines c → is_born plan H c ≡ true → IsPrefix (seen c) cut

-- The block p made these lines and has ended, by what its caller has seen.
pub record Ended (plan : PlanSeen) (H : List Entry) (seen : ℕ → List Entry) (p : ℕ) (lines : List PlanLine) : Type 0 where
  pub own : Spell lines (entries_of (seen p) p)
  pub waits : (before after : List PlanLine) (wait : PlanLine) → lines ≡ before ++ wait ∷ after → wait.act ≡ act.Wait → Met plan H seen p before
  pub joined : (c : ℕ) → parent_of plan.parents c ≡ Some p → is_born plan H c ≡ true → IsPrefix (seen c) (seen p)

-- What the closed kernel tells of a caller: the history begins with what it had seen, and has of its entries just those.
pub record Known (H : List Entry) (seen : ℕ → List Entry) (p : ℕ) : Type 0 where
  pub begun : IsPrefix (seen p) H
  pub own : entries_of (seen p) p ≡ entries_of H p

-- All blocks have ended, each with the lines that it made, and those that weren't born made nothing.
pub record AllEnded (plan : PlanSeen) (H : List Entry) (seen : ℕ → List Entry) (lines_of : ℕ → List PlanLine) : Type 0 where
  pub tree : KeepsTree plan H
  pub known : (p : ℕ) → is_born plan H p ≡ true → Known H seen p
  pub ended : (p : ℕ) → is_born plan H p ≡ true → Ended plan H seen p (lines_of p)
  pub silent : (p : ℕ) → is_born plan H p ≡ false → entries_of H p ≡ []

-- While a block runs, of what its caller has seen: it made the lines so far, it met the children of the lines before
-- each wait, and it has met those that `met` forked.
pub record SoFar (plan : PlanSeen) (H : List Entry) (seen : ℕ → List Entry) (p : ℕ) (S : List Entry) (met lines : List PlanLine) : Type 0 where
  pub begun : IsPrefix S (seen p)
  pub own : Spell lines (entries_of S p)
  pub waits : (before after : List PlanLine) (wait : PlanLine) → lines ≡ before ++ wait ∷ after → wait.act ≡ act.Wait → Met plan H seen p before
  pub children : (c : ℕ) → Forks met c → is_born plan H c ≡ true → IsPrefix (seen c) S
