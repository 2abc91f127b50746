-- The plan that the lines of a script make, one after another. Public clauses cite this.
use Rattle.std.specs.Prelude.{ℕ, zero, suc, ◌+◌, ◌==◌, Bool, true, false, not, List, [], ◌∷◌, ◌++◌, length, nat_lt, slice_index_or, Result, Ok, Err, if◌then◌else◌}
use Rattle.std.specs.List.{list_all, list_any}
use Rattle.flat_model.specs.vm_types.declared.call.Call.TheVariants as call
use Rattle.vm_script.specs.declared.fault.ScriptKind.TheVariants as fault
use Rattle.vm_script.specs.declared.fault.ScriptFault.{ScriptFault}
use Rattle.vm_script.specs.declared.plan.SetupAct.{SetupAct}
use Rattle.vm_script.specs.declared.plan.SetupAct.TheVariants as given
use Rattle.vm_script.specs.declared.plan.SetupLine.{SetupLine}
use Rattle.vm_script.specs.declared.plan.PlanLine.{PlanLine}
use Rattle.vm_script.specs.declared.plan.PlanAct.{PlanAct}
use Rattle.vm_script.specs.declared.plan.PlanAct.TheVariants as act
use Rattle.vm_script.specs.declared.statement.Statement.{Statement}
use Rattle.vm_script.specs.declared.statement.Statement.TheVariants as says
use Rattle.vm_script.specs.declared.statement.LineSpot.{LineSpot}
use Rattle.vm_script.specs.PlanSeen.{PlanSeen}
use Rattle.vm_script.specs.Lines.{is_plain, fields, lines}
use Rattle.vm_script.specs.Statements.{statement}

-- A plan as far as it is read, and the block that is open innermost, 0 outside blocks.
pub record OpenPlan : Type 0 where
  pub setup : List SetupLine
  pub lines : List PlanLine
  pub parents : List ℕ
  pub inside : ℕ

-- The plan of the lines so far.
abbrev pub plan_seen : OpenPlan → PlanSeen
plan_seen g = record { setup = g.setup; lines = g.lines; parents = g.parents }

-- The plan before the first line.
abbrev pub empty_plan : OpenPlan
empty_plan = record { setup = []; lines = []; parents = []; inside = 0 }

-- The block that is open where the block p has ended: its parent, or 0.
abbrev pub enclosing_block : List ℕ → ℕ → ℕ
enclosing_block parents zero = 0
enclosing_block parents (suc i) = slice_index_or parents i 0

-- With a line of the innermost block.
abbrev pub with_line : OpenPlan → ℕ → PlanAct → OpenPlan
with_line g n a = record g { lines = g.lines ++ record { line = n; process = g.inside; act = a } ∷ [] }

-- With a new block, whose parent this is. Blocks are numbered from 1 in the order in which they begin.
abbrev pub with_new_block : OpenPlan → ℕ → OpenPlan
with_new_block g parent = record g { parents = g.parents ++ parent ∷ []; inside = length g.parents + 1 }

-- The innermost block has ended.
abbrev pub without_block : OpenPlan → OpenPlan
without_block g = record g { inside = enclosing_block g.parents g.inside }

-- With what line n says.
abbrev pub with_statement : OpenPlan → ℕ → Statement → OpenPlan
with_statement g n says.Nothing = g
with_statement g n (says.Setup a) = record g { setup = g.setup ++ record { line = n; act = a } ∷ [] }
with_statement g n says.Process = with_new_block g 0
with_statement g n says.Fork = with_new_block (with_line g n (act.Call (call.Fork (length g.parents + 1)))) g.inside
with_statement g n says.End = without_block (with_line g n (act.Call call.Exit))
with_statement g n (says.Own a) = with_line g n a

-- The line gives the page frames.
abbrev pub gives_frames : SetupAct → Bool
gives_frames (given.Frames n) = true
gives_frames a = false

-- The line gives the swap slots.
abbrev pub gives_swap : SetupAct → Bool
gives_swap (given.Swap n) = true
gives_swap a = false

-- The line gives the translations.
abbrev pub gives_translations : SetupAct → Bool
gives_translations (given.Translations n) = true
gives_translations a = false

-- One of the set-up lines gives this.
abbrev pub has_setup : (SetupAct → Bool) → List SetupLine → Bool
has_setup gives setup = list_any (λ l. gives l.act) setup

-- Where the next line stands.
abbrev pub spot_of : OpenPlan → LineSpot
spot_of g = record {
  inside = not (g.inside == 0);
  opening = length g.parents == 0;
  frames = has_setup gives_frames g.setup;
  swap = has_setup gives_swap g.setup;
  translations = has_setup gives_translations g.setup;
}

-- The plan of the lines behind line n, on what the lines up to it made; the fault is that of the first bad line. A block
-- that is open at the end is a fault of the line behind the last one.
abbrev pub plan_from : ℕ → OpenPlan → List (List ℕ) → Result PlanSeen ScriptFault
plan_from n g [] = if g.inside == 0 then Ok (plan_seen g) else Err (record { line = n + 1; kind = fault.Place })
plan_from n g (line ∷ rest) = elim (statement (spot_of g) (list_all is_plain line) (fields line)) [
  | Ok s ↦ plan_from (n + 1) (with_statement g (n + 1) s) rest
  | Err kind ↦ Err (record { line = n + 1; kind = kind })
]

-- The plan that a script spells, or its first fault. A script has at most 1,048,576 bytes.
abbrev pub plan_of : List ℕ → Result PlanSeen ScriptFault
plan_of text =
    if nat_lt 1048576 (length text) then Err (record { line = 0; kind = fault.Long })
    else plan_from 0 empty_plan (lines text)
