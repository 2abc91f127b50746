-- The entries of a process as runs of a history. Inside: no public clause cites this.
use Rattle.std.specs.Prelude.{ℕ, ◌+◌, ◌≤◌, ◌++◌, List, [], ◌∷◌, All, take, drop}
use Rattle.vm_script.specs.vm_types.declared.call.Entry.{Entry}
use Rattle.vm_report.specs.declared.cursors.Cursor.{Cursor}
use Rattle.vm_report.specs.declared.runs.Run.{Run}

-- The entries of a run.
abbrev pub run_seen : List Entry → Run → List Entry
run_seen H r = take r.count (drop r.first H)

-- The entries of several runs, one behind the other.
abbrev pub runs_seen : List Entry → List Run → List Entry
runs_seen H [] = []
runs_seen H (r ∷ rs) = run_seen H r ++ runs_seen H rs

-- No entry yet.
abbrev pub no_runs : List Run
no_runs = record { first = 0; count = 0 } ∷ []

-- The runs lie within so many entries.
abbrev pub AreWithin : ℕ → List Run → Type 0
AreWithin n rs = All (λ r. r.first + r.count ≤ n) rs

-- What is left of the entries of a process at a place: those of a slice, and those of the runs behind it.
abbrev pub entries_left : List Entry → List Run → Cursor → List Entry
entries_left H rs at = at.front ++ runs_seen H (drop at.next rs)
