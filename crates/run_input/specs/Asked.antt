-- What a run is asked to do, by its words and by the script or the number of a generated one. Public clauses cite this.
use Rattle.std.specs.Prelude.{ℕ, true, false, List, ◌≡◌, ◌⊎◌, Option, Some, None, IfSome, option_map, Result, Ok, Err, if◌then◌else◌}
use Rattle.volume_files.specs.block_device.Counts.{HasRisen}
use Rattle.volume_files.specs.block_device.RackSeen.{RackSeen}
use Rattle.volume_files.specs.block_device.StreamSeen.{SourceSeen}
use Rattle.volume_files.specs.block_device.declared.rack.Spec.{Spec}
use Rattle.volume_files.specs.vm_script.declared.fault.ScriptFault.{ScriptFault}
use Rattle.volume_files.specs.vm_script.Generated.{generated_text}
use Rattle.volume_files.specs.vm_script.PlanSeen.{PlanSeen}
use Rattle.volume_files.specs.vm_script.Plans.{plan_of}
use Rattle.volume_files.specs.vm_script.Rules.{broken_rule}
use Rattle.volume_files.specs.declared.stops.Refusal.TheVariants as refusal
use Rattle.run_endings.specs.declared.ending.Ending.{Ending}
use Rattle.run_endings.specs.declared.ending.Ending.TheVariants as ending
use Rattle.command_line.specs.declared.options.Options.{Options}
use Rattle.command_line.specs.declared.saying.Saying.{Saying}
use Rattle.command_line.specs.declared.saying.Saying.TheVariants as says
use Rattle.command_line.specs.Sayings.{saying_of}

-- What a run is given: its words, the bytes that are still to come where the source tells them, and what the rack holds for each disk, where it
-- tells that.
pub record Given : Type 0 where
  pub words : List (List ℕ)
  pub rest : Option (List ℕ)
  pub holds : Spec → Option (List (List ℕ))

-- What a run is given by its words, its source and its rack.
abbrev pub given_of : List (List ℕ) → SourceSeen → RackSeen → Given
given_of words source rack = record { words = words; rest = source.rest; holds = rack.holds }

-- What is to be run: what the words say, and the plan.
pub record Asked : Type 0 where
  pub options : Options
  pub plan : PlanSeen

-- What is asked by a plan, unless a rule of its own is broken.
abbrev pub by_rules : Options → PlanSeen → Option ℕ → Result Asked Ending
by_rules o plan None = Ok (record { options = o; plan = plan })
by_rules o plan (Some rule) = Err (ending.Refused (refusal.Rule rule))

-- What is asked by a plan, or the first of its own rules that it breaks.
abbrev pub by_plan : Options → PlanSeen → Result Asked Ending
by_plan o plan = by_rules o plan (broken_rule plan)

-- What is asked by the plan that a script says, or the script's fault.
abbrev pub by_script : Options → Result PlanSeen ScriptFault → Result Asked Ending
by_script o (Ok plan) = by_plan o plan
by_script o (Err f) = Err (ending.NoScript f)

-- The script's text, where it is told: that of the generated script, where its number is given; else that of the source.
abbrev pub script_told : Option ℕ → Option (List ℕ) → Option (List ℕ)
script_told (Some number) rest = Some (generated_text number)
script_told None rest = rest

-- WHAT WAS ASKED, or why nothing can be run: words that aren't taken; else, where they ask neither for a check nor about the program itself, what some text
-- says, which is the script's where that is told.
abbrev pub Asks : Option Saying → Option (List ℕ) → Result Asked Ending → Type 0
Asks None rest r = r ≡ Err ending.Usage
Asks (Some (says.Inquiry q)) rest r = ⊥
Asks (Some (says.Options o)) rest r = (o.check ≡ false) × (text : List ℕ) × IfSome (script_told o.make rest) (λ told. told ≡ text) × (by_script o (plan_of text) ≡ r)

-- What a run was asked, from its words and its source, or why nothing can be run.
abbrev pub WasAsked : Given → Result Asked Ending → Type 0
WasAsked g r = Asks (saying_of g.words) g.rest r

-- What was asked, where the text is told; none where it isn't, or where a check is asked for, or the
-- program about itself.
abbrev pub request_of_saying : Option Saying → Option (List ℕ) → Option (Result Asked Ending)
request_of_saying None rest = Some (Err ending.Usage)
request_of_saying (Some (says.Inquiry q)) rest = None
request_of_saying (Some (says.Options o)) rest = if o.check then None else option_map (λ text. by_script o (plan_of text)) (script_told o.make rest)

-- What a run was asked, where its source tells the text; none where it doesn't, or a check is asked
-- for.
abbrev pub run_request : Given → Option (Result Asked Ending)
run_request g = request_of_saying (saying_of g.words) g.rest

-- The source is read: the words ask for a check, or name no generated script.
abbrev pub ReadsSource : Options → Type 0
ReadsSource o = (o.check ≡ true) ⊎ (o.make ≡ None)

-- The source failed, which was to be read: its count of faults rose.
pub record FailsToRead (g : Given) (old new : ℕ) : Type 0 where
  pub risen : HasRisen old new
  pub options : Options
  pub words : saying_of g.words ≡ Some (says.Options options)
  pub source : ReadsSource options
