-- How many entries a plan may need. Public clauses cite this.
use Rattle.std.specs.Prelude.{ℕ, ◌+◌, ◌-◌, ◌/◌, ◌^◌, min, List, length, sum_by}
use Rattle.flat_model.specs.vm_types.declared.call.Call.{Call}
use Rattle.flat_model.specs.vm_types.declared.call.Call.TheVariants as call
use Rattle.vm_script.specs.declared.plan.PlanAct.{PlanAct}
use Rattle.vm_script.specs.declared.plan.PlanAct.TheVariants as act
use Rattle.vm_script.specs.declared.plan.PlanLine.{PlanLine}

-- The parts of a read or a write of n bytes from an offset on: the aligned lines of 64 bytes that these bytes touch,
-- those past 2^32 left out.
abbrev pub line_count : ℕ → ℕ → ℕ
line_count offset n = (min (offset + n) (2 ^ 32) + 63) / 64 - offset / 64

-- The entries that a call may make, each of its parts one.
abbrev pub call_parts : Call → ℕ
call_parts (call.Read file offset len) = line_count offset len
call_parts (call.Write file offset line rest) = line_count offset (length line + rest)
call_parts c = 1

-- The entries that a line may make; a wait makes none.
abbrev pub parts : PlanAct → ℕ
parts (act.Call c) = call_parts c
parts (act.Named name c) = call_parts c
parts (act.Write name file offset bytes) = line_count offset (length bytes)
parts act.Wait = 0

-- The entries that a history of these lines may have.
abbrev pub entry_count : List PlanLine → ℕ
entry_count lines = sum_by (λ l. parts l.act) lines
