-- A run of words that are taken, in which no outside failed.
use Rattle.std.proofs.Common.{◌≡◌, ℕ, refl, sym, ap, ◌∙◌, subst, inl, inr}
use Rattle.std.specs.Prelude.{Bool, IfSome, IsSome, List, MatchOption, Option, option_map, Some, None, Result, Ok, Err, if◌then◌else◌}
use Rattle.run_endings.specs.declared.ending.TraceAnswer.{TraceAnswer}
use Rattle.run_endings.specs.declared.ending.TraceEnd.TheVariants as ends
use Rattle.run_endings.specs.declared.inquiry_end.InquiryEnd.TheVariants as inquired
use Rattle.run_input.specs.TraceChecks.{WasChecked}
use Rattle.run_input.specs.Inquired.{WasInquired}
use Rattle.std.proofs.lemmas.Option.{none-some, same_Some}
use Rattle.volume_files.specs.block_device.Counts.{HasRisen}
use Rattle.volume_files.specs.block_device.OpenSeen.{OpenFaultSeen}
use Rattle.run_endings.specs.declared.ending.Ending.{Ending}
use Rattle.run_endings.specs.declared.ending.Ending.TheVariants as ending
use Rattle.volume_files.specs.vm_script.Plans.{plan_of}
use Rattle.command_line.specs.declared.saying.Saying.{Saying}
use Rattle.command_line.specs.declared.saying.Saying.TheVariants as says
use Rattle.command_line.specs.declared.inquiry.Inquiry.{Inquiry}
use Rattle.run_input.specs.Asked.{Given, Asked, Asks, WasAsked, run_request, request_of_saying, by_script, script_told}
use Rattle.command_line.specs.Sayings.{saying_of}
use Rattle.run_endings.specs.Ending.{fault_of, status_of}
use Rattle.run_outcome.specs.Ended.{End}
use Rattle.volume_files.specs.Handed.{HasRefusalCause, IsCountedBy}
use Rattle.run_outcome.specs.Run.{CaseOf, FailsToOpen, IsComplete, IsDiskCounted, Outside, RunEnds, wrote_all}

told-text : {R : Type 0} (said : Option (List ℕ)) (F : List ℕ → R) (q r : R) → option_map F said ≡ Some q → (text : List ℕ) × IfSome said (λ told. told ≡ text) × (F text ≡ r) → r ≡ q
told-text None F q r is h = absurd (none-some q is)
told-text (Some told) F q r is h = sym h.2 ∙ ap F (sym h.1) ∙ same_Some (F told) q is

-- what was asked is the one thing that the words and the text ask for, where the text is told
one-asked : (words : Option Saying) (rest : Option (List ℕ)) (q r : Result Asked Ending) → request_of_saying words rest ≡ Some q → Asks words rest r → r ≡ q
one-asked None rest q r is h = h ∙ same_Some (Err ending.Usage) q is
one-asked (Some (says.Inquiry p)) rest q r is h = absurd h
one-asked (Some (says.Options o)) rest q r is h =
    let said : option_map (λ text. by_script o (plan_of text)) (script_told o.make rest) ≡ Some q =
    sym (ap (λ (b : Bool). if b then None else option_map (λ text. by_script o (plan_of text)) (script_told o.make rest)) h.0) ∙ is in
    told-text (script_told o.make rest) (λ text. by_script o (plan_of text)) q r said (h.1, h.2, h.3)

-- no run is asked for where a check is
pub not-checked : (g : Given) (what : Asked) (a : TraceAnswer) → run_request g ≡ Some (Ok what) → WasChecked g a → ⊥
not-checked g what a is w =
    let none : run_request g ≡ None = ap (λ (said : Option Saying). request_of_saying said g.rest) w.words
    ∙ ap (λ (b : Bool). if b then None else option_map (λ text. by_script w.options (plan_of text)) (script_told w.options.make g.rest)) w.check in
    none-some (Ok what) (sym none ∙ is)

-- nor where the program is asked about itself
pub not-inquired : (g : Given) (what : Asked) (q : Inquiry) → run_request g ≡ Some (Ok what) → WasInquired g q → ⊥
not-inquired g what q is w = none-some (Ok what) (sym (ap (λ (said : Option Saying). request_of_saying said g.rest) w) ∙ is)

not-stopped : (g : Given) (what : Asked) (h : Ending) → run_request g ≡ Some (Ok what) → WasAsked g (Err h) → ⊥
not-stopped g what h is p = let b : ◌≡◌ {A = Result Asked Ending} (Err h) (Ok what) = one-asked (saying_of g.words) g.rest (Ok what) (Err h) is p in cc

pub same-run_request : (g : Given) (what other : Asked) → run_request g ≡ Some (Ok what) → WasAsked g (Ok other) → other ≡ what
same-run_request g what other is p = let b : ◌≡◌ {A = Result Asked Ending} (Ok other) (Ok what) = one-asked (saying_of g.words) g.rest (Ok what) (Ok other) is p in cc

rack-or-disk : (f : OpenFaultSeen) (P : Type 0) (Q : ℕ × ℕ → Type 0) → MatchOption f.counts P Q → (P → ⊥) → IsSome f.counts
rack-or-disk f P Q h never = by f.counts h
  where
    by : (counts : Option (ℕ × ℕ)) → MatchOption counts P Q → IsSome counts
    by None p = absurd (never p)
    by (Some c) q = refl

module _ (g : Given) (o : Outside) (e : End) where
  by-case : (how : Ending) → e.status ≡ status_of how → e.fault ≡ fault_of how → CaseOf g o (wrote_all o) e how → IsComplete g o e
  by-case ending.Whole s f c what is ns nk nr = inl s
  by-case ending.Usage s f c what is ns nk nr = absurd (not-stopped g what ending.Usage is c.0)
  by-case (ending.NoScript x) s f c what is ns nk nr = absurd (not-stopped g what (ending.NoScript x) is c.0)
  by-case (ending.Refused r) s f (inl c) what is ns nk nr = absurd (not-stopped g what (ending.Refused r) is c.0)
  by-case (ending.Refused r) s f (inr c) what is ns nk nr = inr (inr (inr (record {
    status = s;
    rule = r;
    cause = subst (λ (w : Asked). HasRefusalCause w.plan g.holds e.disks e.swap r) (same-run_request g what c.what is c.asked) c.cause;
  })))
  by-case ending.NotRead s f c what is ns nk nr = absurd (ns c.0.risen)
  by-case ending.OpeningSink s f c what is ns nk nr = absurd (nk c.cause)
  by-case ending.Sink s f c what is ns nk nr = absurd (nk c.cause)
  by-case (ending.Opening x) s f c what is ns nk nr = inr (inr (inl (subst IsDiskCounted (sym f) (counted c))))
    where
      counted : FailsToOpen g o (wrote_all o) x e → IsSome x.counts
      counted (inl k) = rack-or-disk x (HasRisen o.rack_old o.rack_new) (λ counts. IsCountedBy k.what.plan e.disks e.swap x.disk counts.0 counts.1) k.cause nr
      counted (inr k) = rack-or-disk x ⊥ (λ counts. IsCountedBy k.what.plan e.disks e.swap x.disk counts.0 counts.1) k.cause (λ none. none)
  by-case (ending.Closing x) s f c what is ns nk nr = inr (inr (inl (subst IsDiskCounted (sym f) tt)))
  by-case (ending.Showing x) s f c what is ns nk nr = inr (inr (inl (subst IsDiskCounted (sym f) tt)))
  by-case ending.Memory s f c what is ns nk nr = inr (inl s)
  by-case (ending.Checked (ends.Told a)) s f c what is ns nk nr = absurd (not-checked g what a is c.answer)
  by-case (ending.Checked ends.Sink) s f c what is ns nk nr = absurd (not-checked g what c.0 is c.1.answer)
  by-case (ending.Informed (inquired.Told q)) s f c what is ns nk nr = absurd (not-inquired g what q is c.asked)
  by-case (ending.Informed (inquired.Sink q)) s f c what is ns nk nr = absurd (not-inquired g what q is c.asked)

  pub completes : RunEnds g o e → IsComplete g o e
  completes r = elim r.case [
    | inl told ↦ by-case r.how r.status r.fault told.case
    | inr line ↦ λ what is ns nk nr. inr (inl (r.status ∙ ap status_of line.memory))
  ]
