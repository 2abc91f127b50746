-- When a block's caller may make its next line. Public clauses cite this.
use Rattle.std.specs.Prelude.{ℕ, ◌≡◌, ◌+◌, ◌≤◌, ◌<◌, ◌^◌, List, [], ◌∷◌, drop, length, MatchOption, IsTrue, IsFalse}
use Rattle.std.specs.List.{list_any, AllByRecursion}
use Rattle.vm_script.specs.vm_types.declared.call.Entry.{Entry}
use Rattle.vm_script.specs.vm_types.Parts.{ends_call, first_write, part_bytes, HasRest}
use Rattle.vm_script.specs.vm_types.WellFormed.{IsWellFormed}
use Rattle.vm_script.specs.flat_model.Births.{is_birth}
use Rattle.vm_script.specs.flat_model.OpenLaws.{last_entry}
use Rattle.vm_script.specs.flat_model.Told.{SpelledLine, entries_of}
use Rattle.vm_script.specs.Blocks.{IsInner}
use Rattle.vm_script.specs.declared.plan.PlanAct.{PlanAct}
use Rattle.vm_script.specs.declared.plan.PlanAct.TheVariants as act
use Rattle.vm_script.specs.declared.plan.PlanLine.{PlanLine}
use Rattle.vm_script.specs.Counts.{parts, entry_count}
use Rattle.vm_script.specs.Sound.{IsOfNoFile}
use Rattle.vm_core.specs.vm_world.SeatLaws.{IsKnownAlive}
use Rattle.vm_core.specs.vm_world.State.{room_of}
use Rattle.vm_kernel.specs.Callers.{KernelSeen, CallerSeen}
use Rattle.block_runs.specs.Callers.{tree, rooms}
use Rattle.block_runs.specs.Lines.{own_of}

-- A call is well formed, and its bytes that are still to come are as many as its rest says.
pub record IsFitCall (s : SpelledLine) : Type 0 where
  pub formed : IsWellFormed s.call
  pub rest : HasRest s.call s.bytes

-- The call of a line is fit. Where the line names no file, it is of none; where it names one, it is neither a Fork nor an Exit; and what a write has is a
-- number of bytes.
abbrev pub IsFitAct : PlanAct → Type 0
IsFitAct (act.Call c) = IsFitCall (record { call = c; bytes = [] }) × IsOfNoFile c
IsFitAct (act.Named name c) = IsFitCall (record { call = c; bytes = [] }) × IsInner (act.Call c)
IsFitAct (act.Write name file offset bytes) =
    let first = first_write file offset bytes in
    IsFitCall (record { call = first; bytes = drop (length (part_bytes first)) bytes }) × (length bytes < 2 ^ 32)
IsFitAct act.Wait = Unit {0}

-- LINES MAY BE MADE: no process has more of them than its room, and each line's call is fit.
pub record AreFit (k : KernelSeen) (lines : List PlanLine) : Type 0 where
  pub room : (q : ℕ) → entry_count (own_of q lines) ≤ room_of (rooms k) q
  pub acts : AllByRecursion (λ (l : PlanLine). IsFitAct l.act) lines

-- The last call of a process is at its end.
abbrev pub EndsLast : ℕ → List Entry → Type 0
EndsLast p own = MatchOption (last_entry p own) (Unit {0}) (λ d. IsTrue (ends_call d.call d.reply))

-- WHAT A BLOCK KEEPS BETWEEN ITS LINES, while lines are left, so that each next line may be made: its process is known to be alive; there is room for what
-- is left; its last call is at its end; and it bore none of the blocks from the next one on.
pub record MayMakeLines (k : KernelSeen) (p : ℕ) (S : List Entry) (next : ℕ) (left : List PlanLine) : Type 0 where
  pub alive : IsKnownAlive (tree k) S (entries_of S p) p
  pub room : length (entries_of S p) + entry_count (own_of p left) ≤ room_of (rooms k) p
  pub ends : EndsLast p (entries_of S p)
  pub bears : (c : ℕ) → next ≤ c → IsFalse (list_any (is_birth c) (entries_of S p))

-- The lines that are left may be made; of none nothing is asked.
abbrev pub MayGo : KernelSeen → ℕ → List Entry → ℕ → List PlanLine → Type 0
MayGo k p S next [] = Unit {0}
MayGo k p S next (l ∷ left) = MayMakeLines k p S next (l ∷ left)

-- A line may be made.
pub record MayMakeLine (k : KernelSeen) (v : CallerSeen) (l : PlanLine) : Type 0 where
  pub fit : IsFitAct l.act
  pub alive : IsKnownAlive (tree k) v.seat.seen (entries_of v.seat.seen v.process) v.process
  pub room : length (entries_of v.seat.seen v.process) + parts l.act ≤ room_of (rooms k) v.process
  pub ends : EndsLast v.process (entries_of v.seat.seen v.process)
