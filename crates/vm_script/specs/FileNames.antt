-- The names of a plan's lines as file numbers. Public clauses cite this.
use Rattle.std.specs.Prelude.{ℕ, ◌+◌, List, [], ◌∷◌, map, if◌then◌else◌}
use Rattle.flat_model.specs.vm_types.declared.call.Call.{Call}
use Rattle.flat_model.specs.vm_types.declared.call.Call.TheVariants as call
use Rattle.flat_model.specs.vm_types.declared.call.Object.TheVariants as object
use Rattle.vm_script.specs.declared.plan.PlanAct.{PlanAct}
use Rattle.vm_script.specs.declared.plan.PlanAct.TheVariants as act
use Rattle.vm_script.specs.declared.plan.PlanLine.{PlanLine}
use Rattle.vm_script.specs.PlanSeen.{PlanSeen}
use Rattle.vm_script.specs.Fields.{is_word}

-- The first place of a name in the names from place i on; the number that it had where it isn't there.
abbrev pub place_from : ℕ → List (List ℕ) → List ℕ → ℕ → ℕ
place_from i [] name old = old
place_from i (first ∷ names) name old = if is_word first name then i else place_from (i + 1) names name old

-- The number of a file by its name.
abbrev pub file_number : List (List ℕ) → List ℕ → ℕ → ℕ
file_number names name old = place_from 0 names name old

-- The call with the number of the file of this name.
abbrev pub call_with_file : List (List ℕ) → List ℕ → Call → Call
call_with_file names name (call.Map at len prot kind (object.File file) offset) = call.Map at len prot kind (object.File (file_number names name file)) offset
call_with_file names name (call.Read file offset len) = call.Read (file_number names name file) offset len
call_with_file names name (call.Truncate file len) = call.Truncate (file_number names name file) len
call_with_file names name c = c

-- What a line does, with the number of the file that it names; a line that names none stays.
abbrev pub act_with_file : List (List ℕ) → PlanAct → PlanAct
act_with_file names (act.Named name c) = act.Named name (call_with_file names name c)
act_with_file names (act.Write name file offset bytes) = act.Write name (file_number names name file) offset bytes
act_with_file names a = a

-- The line with the number of the file that it names.
abbrev pub line_with_file : List (List ℕ) → PlanLine → PlanLine
line_with_file names l = record { line = l.line; process = l.process; act = act_with_file names l.act }

-- The plan with each file's number the place of its name.
abbrev pub with_files : List (List ℕ) → PlanSeen → PlanSeen
with_files names plan = record plan { lines = map (line_with_file names) plan.lines }
