-- What is to be run breaks no rule that looks at its script alone.
use Rattle.std.proofs.Common.{◌≡◌, ℕ, refl, subst}
use Rattle.std.specs.Prelude.{Option, Some, None, Result, Ok, Err}
use Rattle.volume_files.specs.vm_script.PlanSeen.{PlanSeen}
use Rattle.volume_files.specs.vm_script.Plans.{plan_of}
use Rattle.volume_files.specs.vm_script.Rules.{broken_rule}
use Rattle.volume_files.specs.vm_script.declared.fault.ScriptFault.{ScriptFault}
use Rattle.command_line.specs.declared.options.Options.{Options}
use Rattle.command_line.specs.declared.saying.Saying.{Saying}
use Rattle.command_line.specs.declared.saying.Saying.TheVariants as says
use Rattle.command_line.specs.Sayings.{saying_of}
use Rattle.run_endings.specs.declared.ending.Ending.{Ending}
use Rattle.run_endings.specs.declared.ending.Ending.TheVariants as ending
use Rattle.run_input.specs.Asked.{Asked, Asks, Given, WasAsked, by_rules, by_script}

module _ (what : Asked) where
  by_broken : (o : Options) (plan : PlanSeen) (r : Option ℕ) → broken_rule plan ≡ r → by_rules o plan r ≡ Ok what → broken_rule what.plan ≡ None
  by_broken o plan None is h = let same : record { options = o; plan = plan } ≡ what = cc in subst (λ (w : Asked). broken_rule w.plan ≡ None) same is
  by_broken o plan (Some rule) is h = absurd cc

  by_text : (o : Options) (r : Result PlanSeen ScriptFault) → by_script o r ≡ Ok what → broken_rule what.plan ≡ None
  by_text o (Ok plan) h = by_broken o plan (broken_rule plan) refl h
  by_text o (Err f) h = absurd cc

pub asked-rules : (g : Given) (what : Asked) → WasAsked g (Ok what) → broken_rule what.plan ≡ None
asked-rules g what asked = by_words (saying_of g.words) asked
  where
    by_words : (said : Option Saying) → Asks said g.rest (Ok what) → broken_rule what.plan ≡ None
    by_words None h = absurd (let z : ◌≡◌ {A = Result Asked Ending} (Ok what) (Err ending.Usage) = h in cc)
    by_words (Some (says.Inquiry q)) h = absurd h
    by_words (Some (says.Options o)) h = by_text what o (plan_of h.1) h.3
