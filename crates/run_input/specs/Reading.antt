-- How the script of a run is read. Inside: no clause of `run` cites this.
use Rattle.std.specs.Prelude.{ℕ, ◌≡◌, List, None, IfSome, Option, Result, Ok, Err}
use Rattle.volume_files.specs.vm_script.PlanSeen.{PlanSeen}
use Rattle.volume_files.specs.vm_script.Sound.{IsSoundPlan}
use Rattle.volume_files.specs.vm_script.Rules.{broken_rule}
use Rattle.volume_files.specs.block_device.Counts.{HasRisen}
use Rattle.volume_files.specs.vm_script.Plans.{plan_of}
use Rattle.run_endings.specs.declared.ending.Ending.{Ending}
use Rattle.run_endings.specs.declared.ending.Ending.TheVariants as ending
use Rattle.run_input.specs.declared.reading.Request.{Request}
use Rattle.run_input.specs.declared.reading.Request.TheVariants as request
use Rattle.run_input.specs.TraceChecks.{WasChecked, AnswersSource}
use Rattle.run_input.specs.Inquired.{WasInquired}
use Rattle.command_line.specs.declared.options.Options.{Options}
use Rattle.run_input.specs.Asked.{Given, Asked, FailsToRead, WasAsked, by_plan, script_told}
use Rattle.volume_files.specs.vm_script.declared.fault.ScriptFault.{ScriptFault}
use Rattle.run_endings.specs.declared.ending.TraceAnswer.{TraceAnswer}
use Rattle.run_endings.specs.declared.ending.TraceAnswer.TheVariants as answer
use Rattle.run_endings.specs.declared.ending.TraceEnd.{TraceEnd}
use Rattle.run_endings.specs.declared.ending.TraceEnd.TheVariants as ends

-- A plan whose lines the kernel can make: each of them is sound, in blocks that nest.
pub record IsPlayable (plan : PlanSeen) : Type 0 where
  pub sound : IsSoundPlan plan

-- A plan that was read from a script and keeps the rules that look at it alone.
pub record IsReadPlan (plan : PlanSeen) : Type 0 where
  pub rules : broken_rule plan ≡ None
  pub playable : IsPlayable plan
  pub spelled : (text : List ℕ) × (plan_of text ≡ Ok plan)

-- What some words and some source asked for, which may be run as far as the plan alone tells.
pub record MayBeRun (what : Asked) : Type 0 where
  pub asked : (g : Given) × WasAsked g (Ok what)
  pub read : IsReadPlan what.plan

-- Why there is nothing to be run: what was asked can't be, or the source failed, or memory lacked.
abbrev pub AskStops : Given → ℕ → ℕ → Ending → Type 0
AskStops g old new ending.Usage = WasAsked g (Err ending.Usage)
AskStops g old new (ending.NoScript f) = WasAsked g (Err (ending.NoScript f))
AskStops g old new (ending.Refused r) = WasAsked g (Err (ending.Refused r))
AskStops g old new ending.NotRead = FailsToRead g old new
AskStops g old new ending.Memory = Unit {0}
AskStops g old new how = ⊥

-- WHAT WAS ASKED was read, from words and source, and a trace was answered, or the program is asked about itself; or why there is nothing to be run.
abbrev pub AskEnds : Given → ℕ → ℕ → Result Request Ending → Type 0
AskEnds g old new (Ok (request.Run options plan)) = WasAsked g (Ok (record { options = options; plan = plan })) × IsReadPlan plan
AskEnds g old new (Ok (request.Check a)) = WasChecked g a
AskEnds g old new (Ok (request.Ask q)) = WasInquired g q
AskEnds g old new (Err how) = AskStops g old new how

-- This holds, unless the source failed.
abbrev pub UnlessUnread : {T : Type 0} → Result T Ending → Type 0 → Type 0
UnlessUnread (Err ending.NotRead) P = Unit {0}
UnlessUnread r P = P

-- A script says this result; its text is the one that is told, or some text if none is.
abbrev pub SaysScript : Option ℕ → Option (List ℕ) → Result PlanSeen ScriptFault → Type 0
SaysScript make rest r = (text : List ℕ) × IfSome (script_told make rest) (λ told. told ≡ text) × (plan_of text ≡ r)

-- Some script spells this plan.
abbrev pub IsSpelled : PlanSeen → Type 0
IsSpelled plan = (text : List ℕ) × (plan_of text ≡ Ok plan)

-- Why a text gave no plan: it has a fault, or memory lacked.
abbrev pub TextStops : List ℕ → Ending → Type 0
TextStops text (ending.NoScript f) = plan_of text ≡ Err f
TextStops text ending.Memory = Unit {0}
TextStops text how = ⊥

-- Why the source gave no text: it failed, or memory lacked.
abbrev pub SourceStops : ℕ → ℕ → Ending → Type 0
SourceStops old new ending.NotRead = HasRisen old new
SourceStops old new ending.Memory = Unit {0}
SourceStops old new how = ⊥

-- How a check ends whose line the sink didn't take whole: a verdict has to be told, and a fault is told as far as that goes.
abbrev pub untold_end : TraceAnswer → TraceEnd
untold_end (answer.Verdict v) = ends.Sink
untold_end (answer.Fault f) = ends.Told (answer.Fault f)
untold_end answer.Long = ends.Told answer.Long

-- The request is the answer to the source's trace.
abbrev pub IsAnswer : Option (List ℕ) → Request → Type 0
IsAnswer rest (request.Check a) = AnswersSource rest a
IsAnswer rest (request.Run options plan) = ⊥
IsAnswer rest (request.Ask q) = ⊥

-- Why no plan was read.
abbrev pub ScriptStops : Option ℕ → Option (List ℕ) → ℕ → ℕ → Ending → Type 0
ScriptStops make rest old new (ending.NoScript f) = SaysScript make rest (Err f)
ScriptStops make rest old new ending.NotRead = HasRisen old new × (make ≡ None)
ScriptStops make rest old new ending.Memory = Unit {0}
ScriptStops make rest old new how = ⊥

-- A plan that was read is taken, or it breaks a rule.
abbrev pub TakesPlan : Options → PlanSeen → Result Request Ending → Type 0
TakesPlan o plan (Ok (request.Run options read)) = (by_plan o plan ≡ Ok (record { options = options; plan = read })) × IsReadPlan read
TakesPlan o plan (Ok (request.Check a)) = ⊥
TakesPlan o plan (Ok (request.Ask q)) = ⊥
TakesPlan o plan (Err (ending.Refused r)) = by_plan o plan ≡ Err (ending.Refused r)
TakesPlan o plan (Err how) = ⊥
