-- What was asked, of a text that is told.
use Rattle.std.proofs.Common.{◌≡◌, ℕ, List, [], Option, Some, None, refl, sym, ap, ◌∙◌, subst}
use Rattle.std.specs.Prelude.{IfSome, Result, Ok, Err}
use Rattle.volume_files.specs.vm_script.Plans.{plan_of}
use Rattle.command_line.specs.declared.saying.Saying.{Saying}
use Rattle.command_line.specs.declared.saying.Saying.TheVariants as says
use Rattle.command_line.specs.Sayings.{saying_of}
use Rattle.command_line.specs.declared.inquiry.Inquiry.{Inquiry}
use Rattle.run_endings.specs.declared.ending.Ending.{Ending}
use Rattle.run_endings.specs.declared.ending.Ending.TheVariants as ending
use Rattle.run_endings.specs.declared.ending.TraceAnswer.{TraceAnswer}
use Rattle.run_input.specs.Asked.{Asked, Asks, Given, WasAsked, by_script, script_told}
use Rattle.run_input.specs.Reading.{AskStops}
use Rattle.run_outcome.specs.Members.{with_text}
use Rattle.run_input.specs.TraceChecks.{WasChecked}
use Rattle.run_input.specs.Inquired.{WasInquired}

-- a text that is the source's where that is told
abbrev pub IsText : Option (List ℕ) → List ℕ → Type 0
IsText rest text = IfSome rest (λ bytes. bytes ≡ text)

pub some-text : (rest : Option (List ℕ)) → (text : List ℕ) × IsText rest text
some-text None = ([], tt)
some-text (Some bytes) = (bytes, refl)

asks-told : (words : Option Saying) (rest : Option (List ℕ)) (r : Result Asked Ending) → Asks words rest r → (text : List ℕ) × IsText rest text × Asks words (Some text) r
asks-told None rest r h = let t = some-text rest in (t.0, t.1, h)
asks-told (Some (says.Inquiry q)) rest r h = absurd h
asks-told (Some (says.Options o)) rest r h = by o.make refl h.2
  where
    by : (make : Option ℕ) → o.make ≡ make → IfSome (script_told make rest) (λ told. told ≡ h.1) → (text : List ℕ) × IsText rest text × Asks (Some (says.Options o)) (Some text) r
    by None is told = (h.1, told, (h.0, h.1, subst (λ (m : Option ℕ). IfSome (script_told m (Some h.1)) (λ told. told ≡ h.1)) (sym is) refl, h.3))
    by (Some n) is told =
        let t = some-text rest in (t.0, t.1, (h.0, h.1, subst (λ (m : Option ℕ). IfSome (script_told m (Some t.0)) (λ told. told ≡ h.1)) (sym is) told, h.3))

-- what was asked for was asked by some text
pub asked-told : (g : Given) (r : Result Asked Ending) → WasAsked g r → (text : List ℕ) × IsText g.rest text × WasAsked (with_text g text) r
asked-told g r h = asks-told (saying_of g.words) g.rest r h

one-told : (words : Option Saying) (text : List ℕ) (q r : Asked) → Asks words (Some text) (Ok q) → Asks words (Some text) (Ok r) → q ≡ r
one-told None text q r a b = absurd (let z : ◌≡◌ {A = Result Asked Ending} (Ok q) (Err ending.Usage) = a in cc)
one-told (Some (says.Inquiry p)) text q r a b = absurd a
one-told (Some (says.Options o)) text q r a b = same (by o.make a.2 b.2)
  where
    by : (make : Option ℕ) → IfSome (script_told make (Some text)) (λ told. told ≡ a.1) → IfSome (script_told make (Some text)) (λ told. told ≡ b.1) → a.1 ≡ b.1
    by None x y = sym x ∙ y
    by (Some n) x y = sym x ∙ y

    same : a.1 ≡ b.1 → q ≡ r
    same is = let z : ◌≡◌ {A = Result Asked Ending} (Ok q) (Ok r) = sym a.3 ∙ (ap (λ (t : List ℕ). by_script o (plan_of t)) is ∙ b.3) in cc

-- and a text that is told asks for one thing
pub one-asked-told : (g : Given) (text : List ℕ) (q r : Asked) → WasAsked (with_text g text) (Ok q) → WasAsked (with_text g text) (Ok r) → q ≡ r
one-asked-told g text q r a b = one-told (saying_of g.words) text q r a b

pub checked-told : (g : Given) (a : TraceAnswer) → WasChecked g a → (text : List ℕ) × IsText g.rest text × WasChecked (with_text g text) a
checked-told g a w = (w.source.0, w.source.1, record { options = w.options; words = w.words; check = w.check; source = (w.source.0, refl, w.source.2) })

-- the program was asked about itself, whatever the source tells
pub inquired-told : (g : Given) (q : Inquiry) → WasInquired g q → (text : List ℕ) × IsText g.rest text × WasInquired (with_text g text) q
inquired-told g q w = let t = some-text g.rest in (t.0, t.1, w)

-- nothing can be run
pub stops-told : (g : Given) (old new : ℕ) (how : Ending) → AskStops g old new how → (text : List ℕ) × IsText g.rest text × AskStops (with_text g text) old new how
stops-told g old new ending.Usage a = asked-told g (Err ending.Usage) a
stops-told g old new (ending.NoScript f) a = asked-told g (Err (ending.NoScript f)) a
stops-told g old new (ending.Refused r) a = asked-told g (Err (ending.Refused r)) a
stops-told g old new ending.NotRead a =
    let t = some-text g.rest in (t.0, t.1, record { risen = a.risen; options = a.options; words = a.words; source = a.source })
stops-told g old new ending.Memory a = let t = some-text g.rest in (t.0, t.1, tt)
stops-told g old new ending.Whole a = absurd a
stops-told g old new ending.OpeningSink a = absurd a
stops-told g old new ending.Sink a = absurd a
stops-told g old new (ending.Opening f) a = absurd a
stops-told g old new (ending.Closing f) a = absurd a
stops-told g old new (ending.Showing f) a = absurd a
stops-told g old new (ending.Checked t) a = absurd a
stops-told g old new (ending.Informed t) a = absurd a
