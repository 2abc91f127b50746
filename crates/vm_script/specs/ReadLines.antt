-- One line of a script is read. Inside: no public clause cites this.
use Rattle.std.specs.Prelude.{ℕ, ◌≡◌, ◌≤◌, ◌<◌, ◌+◌, List, length, Err}
use Rattle.vm_script.specs.declared.fault.ReadError.{ReadError}
use Rattle.vm_script.specs.declared.fault.ReadError.TheVariants as errors
use Rattle.vm_script.specs.Lines.{lines}
use Rattle.vm_script.specs.Plans.{OpenPlan, plan_from}

-- Line n + 1 is in front of the text: behind it stands the rest, and the plan has grown by what it says.
pub record ReadsLine (n : ℕ) (old new : OpenPlan) (text rest : List ℕ) : Type 0 where
  pub plan : plan_from n old (lines text) ≡ plan_from (n + 1) new (lines rest)
  pub shorter : length rest < length text
  pub few : length new.parents ≤ length old.parents + 1

-- Line n + 1 has this fault, unless memory ran out.
abbrev pub FailsLine : ℕ → OpenPlan → List ℕ → ReadError → Type 0
FailsLine n g text errors.Memory = Unit {0}
FailsLine n g text (errors.Fault kind) = plan_from n g (lines text) ≡ Err (record { line = n + 1; kind = kind })
