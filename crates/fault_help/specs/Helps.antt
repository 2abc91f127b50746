-- The line that explains the first fault of a script. Public clauses cite this.
use Rattle.std.specs.Prelude.{ℕ, ◌==◌, List, [], ◌∷◌, ◌++◌, codes, decimal, Option, Some, None, Result, Ok, Err, if◌then◌else◌}
use Rattle.vm_script.specs.declared.fault.ScriptFault.{ScriptFault}
use Rattle.vm_script.specs.declared.plan.SetupAct.{SetupAct}
use Rattle.vm_script.specs.declared.plan.SetupAct.TheVariants as given
use Rattle.vm_script.specs.declared.plan.SetupLine.{SetupLine}
use Rattle.vm_script.specs.PlanSeen.{PlanSeen}
use Rattle.vm_script.specs.Plans.{plan_of}

-- Where a line of explanation speaks of: a script's name, and its line where that isn't 0.
abbrev pub place_of_help : List ℕ → ℕ → List ℕ
place_of_help name line = codes "sunvm: " ++ name ++ (if line == 0 then codes ": " else codes ":" ++ decimal line ++ codes ": ")

-- The path of the disk of this number.
abbrev pub act_path : ℕ → SetupAct → Option (List ℕ)
act_path number (given.Path disk path) = if disk == number then Some path else None
act_path number a = None

abbrev pub setup_path : List SetupLine → ℕ → Option (List ℕ)
setup_path [] number = None
setup_path (l ∷ setup) number = elim (act_path number l.act) [ Some path ↦ Some path | None ↦ setup_path setup number ]

abbrev pub read_path : Result PlanSeen ScriptFault → ℕ → Option (List ℕ)
read_path (Ok plan) number = setup_path plan.setup number
read_path (Err f) number = None

-- The path that a script gives for the disk of this number, where it gives one.
abbrev pub path_of_disk : List ℕ → ℕ → Option (List ℕ)
path_of_disk text number = read_path (plan_of text) number
