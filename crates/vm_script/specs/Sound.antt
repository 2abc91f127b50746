-- What holds of every plan that a script spells. Public clauses cite this.
use Rattle.std.specs.Prelude.{◌≤◌, List, length, All}
use Rattle.flat_model.specs.vm_types.declared.call.Call.{Call}
use Rattle.flat_model.specs.vm_types.declared.call.Call.TheVariants as call
use Rattle.flat_model.specs.vm_types.declared.call.Object.TheVariants as object
use Rattle.flat_model.specs.vm_types.WellFormed.{IsNumber, IsWellFormed}
use Rattle.vm_script.specs.declared.plan.PlanAct.{PlanAct}
use Rattle.vm_script.specs.declared.plan.PlanAct.TheVariants as act
use Rattle.vm_script.specs.declared.plan.SetupLine.{SetupLine}
use Rattle.vm_script.specs.PlanSeen.{PlanSeen}
use Rattle.vm_script.specs.Blocks.{Nests}
use Rattle.vm_script.specs.Printed.{IsContent, IsSetupAct}

-- The calls of lines that name no file.
abbrev pub IsOfNoFile : Call → Type 0
IsOfNoFile (call.Map place len prot kind object.NewZero offset) = Unit {0}
IsOfNoFile (call.Map place len prot kind o offset) = ⊥
IsOfNoFile (call.Read file offset len) = ⊥
IsOfNoFile (call.Write file offset line rest) = ⊥
IsOfNoFile (call.Truncate file len) = ⊥
IsOfNoFile c = Unit {0}

-- The calls of lines that name a file, a write aside, which a line gives with all its bytes.
abbrev pub IsOfNamedFile : Call → Type 0
IsOfNamedFile (call.Map place len prot kind (object.File file) offset) = Unit {0}
IsOfNamedFile (call.Read file offset len) = Unit {0}
IsOfNamedFile (call.Truncate file len) = Unit {0}
IsOfNamedFile c = ⊥

-- A line's call is well formed, and of a file exactly where the line names one; a write has 1 to 65,536 bytes.
abbrev pub IsSoundAct : PlanAct → Type 0
IsSoundAct (act.Call c) = IsWellFormed c × IsOfNoFile c
IsSoundAct (act.Named name c) = IsWellFormed c × IsOfNamedFile c
IsSoundAct (act.Write name file offset bytes) = IsNumber file × IsNumber offset × IsContent bytes
IsSoundAct act.Wait = Unit {0}

-- The blocks nest, and each line may be run.
pub record IsSoundPlan (plan : PlanSeen) : Type 0 where
  pub nests : Nests plan
  pub acts : All (λ l. IsSoundAct l.act) plan.lines
  pub few_lines : length plan.lines ≤ 1048576
  pub few_blocks : length plan.parents ≤ 1048576

-- Each set-up line may be said: its numbers are below 2^32; a path has 1 to 255 bytes from 0x21 to 0x7e; and a file has a file's name and begins with at
-- most 65,536 bytes, each below 256.
abbrev pub IsSoundSetup : List SetupLine → Type 0
IsSoundSetup setup = All (λ l. IsSetupAct l.act) setup
