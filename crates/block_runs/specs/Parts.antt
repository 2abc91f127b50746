-- What a call of several parts asks of a caller, and what it makes. Public clauses cite this.
use Rattle.std.specs.Prelude.{ℕ, ◌≡◌, ◌⊎◌, ◌+◌, ◌≤◌, List, length, IsFalse}
use Rattle.std.specs.List.{list_any}
use Rattle.vm_script.specs.vm_types.declared.call.Call.{Call}
use Rattle.vm_script.specs.vm_types.declared.call.Call.TheVariants.{Write}
use Rattle.vm_script.specs.vm_types.declared.call.Entry.{Entry}
use Rattle.vm_script.specs.vm_types.Pages.{line_rest}
use Rattle.vm_script.specs.vm_types.Parts.{HasRest}
use Rattle.vm_script.specs.vm_types.WellFormed.{IsWellFormed}
use Rattle.vm_script.specs.flat_model.Births.{is_birth}
use Rattle.vm_script.specs.flat_model.Told.{Spells, entries_of}
use Rattle.vm_script.specs.declared.plan.PlanAct.TheVariants as act
use Rattle.vm_script.specs.Counts.{call_parts}
use Rattle.vm_core.specs.vm_world.SeatLaws.{IsKnownAlive}
use Rattle.vm_core.specs.vm_world.State.{room_of}
use Rattle.vm_kernel.specs.Callers.{KernelSeen, CallerSeen}
use Rattle.block_runs.specs.Callers.{tree, rooms, SeesMore}
use Rattle.block_runs.specs.Conditions.{EndsLast}
use Rattle.block_runs.specs.Lines.{IsCallLine}

-- A part of a write has all bytes that are left, or those up to the end of its aligned line: so that the parts are no more than the lines.
abbrev pub FillsLine : Call → Type 0
FillsLine (Write file offset line rest) = (rest ≡ 0) ⊎ (length line ≡ line_rest offset)
FillsLine call = Unit {0}

-- A caller may make a call with its next parts: it is no Fork, and there is room for as many entries as it may make.
pub record MayMakeParts (k : KernelSeen) (v : CallerSeen) (c : Call) (bytes : List ℕ) : Type 0 where
  pub formed : IsWellFormed c
  pub rest : HasRest c bytes
  pub fills : FillsLine c
  pub line : IsCallLine (act.Call c)
  pub alive : IsKnownAlive (tree k) v.seat.seen (entries_of v.seat.seen v.process) v.process
  pub room : length (entries_of v.seat.seen v.process) + call_parts c ≤ room_of (rooms k) v.process
  pub ends : EndsLast v.process (entries_of v.seat.seen v.process)

-- The caller made the call with its next parts, to its end, and bore nobody.
pub record MakesParts (v w : CallerSeen) (call : Call) (bytes : List ℕ) : Type 0 where
  pub es : List Entry
  pub more : SeesMore v w es
  pub own : Spells call bytes es
  pub bears : (c : ℕ) → IsFalse (list_any (is_birth c) es)
