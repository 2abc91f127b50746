-- What was asked, or why nothing can be run, once the words were taken.
use Rattle.std.proofs.Common.{◌≡◌, ◌∙◌, ℕ, true, false, List, Option, Some, ap, inl, inr, subst, sym}
use Rattle.std.specs.Prelude.{Result, Ok, Err, IfOk, IfErr}
use Rattle.volume_files.specs.vm_script.PlanSeen.{PlanSeen}
use Rattle.volume_files.specs.block_device.declared.rack.Spec.{Spec}
use Rattle.run_endings.specs.declared.ending.Ending.{Ending}
use Rattle.run_endings.specs.declared.ending.Ending.TheVariants as ending
use Rattle.command_line.specs.declared.options.Options.{Options}
use Rattle.run_input.specs.Asked.{Asked, Asks, by_script}
use Rattle.run_input.specs.declared.reading.Request.{Request}
use Rattle.run_input.specs.declared.reading.Request.TheVariants as request
use Rattle.run_input.specs.Reading.{AskEnds, AskStops, IsAnswer, SaysScript, ScriptStops, SourceStops, TakesPlan}
use Rattle.command_line.specs.declared.saying.Saying.{Saying}
use Rattle.command_line.specs.declared.saying.Saying.TheVariants as says
use Rattle.command_line.specs.Sayings.{saying_of}

pub script-stops : (words : List (List ℕ)) (rest : Option (List ℕ)) (holds : Spec → Option (List (List ℕ))) (o : Options) → saying_of words ≡ Some (says.Options o) → o.check ≡ false → (old new : ℕ) (how : Ending)
    → ScriptStops o.make rest old new how → AskStops (record { words = words; rest = rest; holds = holds }) old new how
script-stops words rest holds o is plain old new (ending.NoScript f) h =
    subst (λ (w : Option Saying). Asks w rest (Err (ending.NoScript f))) (sym is) (plain, h.0, h.1, ap (by_script o) h.2)
script-stops words rest holds o is plain old new ending.NotRead h = record { risen = h.0; options = o; words = is; source = inr h.1 }
script-stops words rest holds o is plain old new ending.Memory h = tt
script-stops words rest holds o is plain old new ending.Usage h = absurd h
script-stops words rest holds o is plain old new ending.Whole h = absurd h
script-stops words rest holds o is plain old new (ending.Refused r) h = absurd h
script-stops words rest holds o is plain old new ending.OpeningSink h = absurd h
script-stops words rest holds o is plain old new ending.Sink h = absurd h
script-stops words rest holds o is plain old new (ending.Opening f) h = absurd h
script-stops words rest holds o is plain old new (ending.Closing f) h = absurd h
script-stops words rest holds o is plain old new (ending.Showing f) h = absurd h
script-stops words rest holds o is plain old new (ending.Checked t) h = absurd h
script-stops words rest holds o is plain old new (ending.Informed t) h = absurd h

module _ (words : List (List ℕ)) (rest : Option (List ℕ)) (holds : Spec → Option (List (List ℕ))) (o : Options) (is : saying_of words ≡ Some (says.Options o)) (old new : ℕ) where
  by-words : (r : Result Asked Ending) → Asks (Some (says.Options o)) rest r → Asks (saying_of words) rest r
  by-words r h = subst (λ (w : Option Saying). Asks w rest r) (sym is) h

  -- a plan that was read
  pub plan-ends : (plan : PlanSeen) (r : Result Request Ending) → o.check ≡ false → SaysScript o.make rest (Ok plan) → TakesPlan o plan r
      → AskEnds (record { words = words; rest = rest; holds = holds }) old new r
  plan-ends plan (Ok (request.Run options read)) plain h t =
      (by-words (Ok (record { options = options; plan = read })) (plain, h.0, h.1, ap (by_script o) h.2 ∙ t.0), t.1)
  plan-ends plan (Ok (request.Check a)) plain h t = absurd t
  plan-ends plan (Ok (request.Ask q)) plain h t = absurd t
  plan-ends plan (Err (ending.Refused x)) plain h t = by-words (Err (ending.Refused x)) (plain, h.0, h.1, ap (by_script o) h.2 ∙ t)
  plan-ends plan (Err ending.Whole) plain h t = absurd t
  plan-ends plan (Err ending.Usage) plain h t = absurd t
  plan-ends plan (Err (ending.NoScript f)) plain h t = absurd t
  plan-ends plan (Err ending.NotRead) plain h t = absurd t
  plan-ends plan (Err ending.OpeningSink) plain h t = absurd t
  plan-ends plan (Err ending.Sink) plain h t = absurd t
  plan-ends plan (Err (ending.Opening f)) plain h t = absurd t
  plan-ends plan (Err (ending.Closing f)) plain h t = absurd t
  plan-ends plan (Err (ending.Showing f)) plain h t = absurd t
  plan-ends plan (Err ending.Memory) plain h t = absurd t
  plan-ends plan (Err (ending.Checked x)) plain h t = absurd t
  plan-ends plan (Err (ending.Informed x)) plain h t = absurd t

  -- a trace that was answered
  pub check-ends : (r : Result Request Ending) → o.check ≡ true → IfOk r (IsAnswer rest) → IfErr r (SourceStops old new)
      → AskEnds (record { words = words; rest = rest; holds = holds }) old new r
  check-ends (Ok (request.Run options read)) asked answer stops = absurd answer
  check-ends (Ok (request.Ask q)) asked answer stops = absurd answer
  check-ends (Ok (request.Check a)) asked answer stops = record { options = o; words = is; check = asked; source = answer }
  check-ends (Err ending.NotRead) asked answer stops = record { risen = stops; options = o; words = is; source = inl asked }
  check-ends (Err ending.Memory) asked answer stops = tt
  check-ends (Err ending.Whole) asked answer stops = absurd stops
  check-ends (Err ending.Usage) asked answer stops = absurd stops
  check-ends (Err (ending.NoScript f)) asked answer stops = absurd stops
  check-ends (Err (ending.Refused x)) asked answer stops = absurd stops
  check-ends (Err ending.OpeningSink) asked answer stops = absurd stops
  check-ends (Err ending.Sink) asked answer stops = absurd stops
  check-ends (Err (ending.Opening f)) asked answer stops = absurd stops
  check-ends (Err (ending.Closing f)) asked answer stops = absurd stops
  check-ends (Err (ending.Showing f)) asked answer stops = absurd stops
  check-ends (Err (ending.Checked x)) asked answer stops = absurd stops
  check-ends (Err (ending.Informed x)) asked answer stops = absurd stops
