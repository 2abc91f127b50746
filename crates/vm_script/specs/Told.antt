-- What a history tells of a plan: each block's lines, once and in order, and its waits. Public clauses cite this.
use Rattle.std.specs.Prelude.{ℕ, zero, suc, ◌⊎◌, ◌≡◌, ◌≤◌, ◌<◌, ◌==◌, Bool, true, false, List, [], ◌∷◌, ◌++◌, length, take, drop, filter, Option, Some, None, slice_get}
use Rattle.std.specs.List.{flat_map, list_any}
use mathlib.Core.List.{IsPrefix}
use Rattle.flat_model.specs.vm_types.declared.call.Call.TheVariants as call
use Rattle.flat_model.specs.vm_types.declared.call.Entry.{Entry}
use Rattle.flat_model.specs.vm_types.Parts.{first_write, part_bytes}
use Rattle.flat_model.specs.Told.{SpelledLine, entries_of, SpellsAll}
pub use Rattle.flat_model.specs.Births.{is_birth, is_done, is_fork_of}
use Rattle.vm_script.specs.declared.plan.PlanAct.{PlanAct}
use Rattle.vm_script.specs.declared.plan.PlanAct.TheVariants as act
use Rattle.vm_script.specs.declared.plan.PlanLine.{PlanLine}
use Rattle.vm_script.specs.PlanSeen.{PlanSeen}

-- The call that a line makes, for a write its first part with the bytes behind it; a wait makes none.
abbrev pub calls_of : PlanAct → List SpelledLine
calls_of (act.Call c) = record { call = c; bytes = [] } ∷ []
calls_of (act.Named name c) = record { call = c; bytes = [] } ∷ []
calls_of (act.Write name file offset bytes) =
    let first = first_write file offset bytes in
    record { call = first; bytes = drop (length (part_bytes first)) bytes } ∷ []
calls_of act.Wait = []

-- The entries spell the lines, the waits left out.
abbrev pub Spell : List PlanLine → List Entry → Type 0
Spell lines es = SpellsAll (flat_map (λ l. calls_of l.act) lines) es

-- The lines of a block.
abbrev pub own_lines : PlanSeen → ℕ → List PlanLine
own_lines plan p = filter (λ l. l.process == p) plan.lines

-- A process's parent, 0 for a top block; none for a number that no block has.
abbrev pub parent_of : List ℕ → ℕ → Option ℕ
parent_of parents zero = None
parent_of parents (suc i) = slice_get parents i

-- Whether a process with this parent is born: a top block is, and another one where its Fork was done.
abbrev pub is_born_of : Option ℕ → ℕ → List Entry → Bool
is_born_of None p H = false
is_born_of (Some zero) p H = true
is_born_of (Some (suc r)) p H = list_any (is_birth p) H

-- A block is born where it is a top block or its Fork was done.
abbrev pub is_born : PlanSeen → List Entry → ℕ → Bool
is_born plan H p = is_born_of (parent_of plan.parents p) p H

-- The process q is c or a descendant of c.
pub data Under (parents : List ℕ) (c : ℕ) : ℕ → Type 0 where
  itself : Under parents c c
  child : (q r : ℕ) → parent_of parents q ≡ Some (suc r) → Under parents c (suc r) → Under parents c q

-- One of the lines forks c.
abbrev pub Forks : List PlanLine → ℕ → Type 0
Forks [] c = ⊥
Forks (l ∷ lines) c = (l.act ≡ act.Call (call.Fork c)) ⊎ Forks lines c

-- p waited behind these lines: at some point of H it had made just their entries, and behind that point no child that
-- they forked has an entry, nor a descendant of one.
pub record HasWaited (plan : PlanSeen) (H : List Entry) (p : ℕ) (lines : List PlanLine) : Type 0 where
  pub cut : List Entry
  pub rest : List Entry
  pub is : cut ++ rest ≡ H
  pub own : Spell lines (entries_of cut p)
  pub ended : (c q : ℕ) → Forks lines c → Under plan.parents c q → entries_of rest q ≡ []

-- The same by positions: where p's first entries spell these lines, each entry of p behind them stands behind every
-- entry of a child that they forked, and of its descendants.
abbrev pub HasWaitedByPlace : PlanSeen → List Entry → ℕ → List PlanLine → Type 0
HasWaitedByPlace plan H p lines =
    (front back : List Entry) → entries_of H p ≡ front ++ back → Spell lines front
    → (c q i j : ℕ) (d e : Entry) → Forks lines c → Under plan.parents c q
    → slice_get H i ≡ Some d → d.process ≡ q
    → slice_get H j ≡ Some e → e.process ≡ p → length front ≤ length (entries_of (take j H) p)
    → i < j

-- The history tells these lines of each process: each block that was born made its lines, once and in order, with its
-- waits; no other process made an entry.
pub record Tells (plan : PlanSeen) (H : List Entry) (lines_of : ℕ → List PlanLine) : Type 0 where
  pub own : (p : ℕ) → is_born plan H p ≡ true → Spell (lines_of p) (entries_of H p)
  pub others : (p : ℕ) → is_born plan H p ≡ false → entries_of H p ≡ []
  pub waits : (p : ℕ) → is_born plan H p ≡ true → (before after : List PlanLine) (wait : PlanLine) → lines_of p ≡ before ++ wait ∷ after → wait.act ≡ act.Wait → HasWaited plan H p before

-- The history tells the plan.
abbrev pub Told : PlanSeen → List Entry → Type 0
Told plan H = Tells plan H (own_lines plan)

-- The history tells a front of each block's lines: a block that was stopped made no line behind its front.
pub record ToldFront (plan : PlanSeen) (H : List Entry) : Type 0 where
  pub lines_of : ℕ → List PlanLine
  pub front : (p : ℕ) → is_born plan H p ≡ true → IsPrefix (lines_of p) (own_lines plan p)
  pub tells : Tells plan H lines_of

-- The calls of a block's lines.
abbrev pub own_calls : PlanSeen → ℕ → List SpelledLine
own_calls plan p = flat_map (λ l. calls_of l.act) (own_lines plan p)

-- One top block, without waits.
pub record IsOneBlock (plan : PlanSeen) : Type 0 where
  pub one : plan.parents ≡ 0 ∷ []
  pub no_wait : (before after : List PlanLine) (wait : PlanLine) → own_lines plan 1 ≡ before ++ wait ∷ after → wait.act ≡ act.Wait → ⊥
