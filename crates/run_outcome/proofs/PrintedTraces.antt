-- A trace that a run printed is legal.
use Rattle.std.proofs.Common.{◌≡◌, ℕ, ◌≤◌, ◌++◌, Bool, true, false, List, [], length, refl, sym, ap, ◌∙◌, subst, arith, inl, inr, append_assoc}
use Rattle.std.specs.Prelude.{IsTrue, Some, Result, Ok, Err, if◌then◌else◌}
use Rattle.volume_files.specs.vm_types.declared.call.Entry.{Entry}
use Rattle.volume_files.specs.vm_report.Trace.{entries_text}
use Rattle.volume_files.specs.flat_model.Flat.{Flat}
use Rattle.volume_files.specs.flat_model.History.{Legal}
use Rattle.volume_files.specs.stored_files.declared.showing.Heading.TheVariants.{Trace}
use Rattle.volume_files.specs.Handed.{sizes_of}
use Rattle.volume_files.specs.Opened.{infos_of}
use Rattle.volume_files.specs.stored_files.Texts.{Wrote, file_sections, trace_front}
use Rattle.trace_check.specs.Checks.{IsChecked, IsTextFor}
use Rattle.trace_check.specs.declared.verdict.TraceFault.{TraceFault}
use Rattle.trace_check.specs.declared.verdict.Verdict.{Verdict}
use Rattle.trace_check.specs.declared.verdict.Verdict.TheVariants as verdict
use Rattle.run_endings.specs.declared.ending.Ending.{Ending}
use Rattle.run_endings.specs.declared.ending.Ending.TheVariants as ending
use Rattle.run_endings.specs.declared.ending.TraceAnswer.{TraceAnswer}
use Rattle.run_endings.specs.declared.ending.TraceAnswer.TheVariants as answer
use Rattle.run_endings.specs.declared.ending.TraceEnd.TheVariants as ends
use Rattle.run_endings.specs.declared.inquiry_end.InquiryEnd.TheVariants as inquired
use Rattle.run_input.specs.Asked.{Asked, Given, run_request}
use Rattle.run_report.specs.AskedTexts.{files_or_none, sections_or_summary}
use Rattle.run_outcome.specs.Ended.{End}
use Rattle.run_endings.specs.Ending.{status_of}
use Rattle.run_outcome.specs.Run.{CaseOf, DisksTell, EndsWhole, Outside, PrintsLegalTrace, PrintsTrace, RunEnds, flat_opened, plan_opened, traced_text, wrote_all}
use Rattle.run_input.specs.TraceChecks.{AnswersText, most_trace_bytes}
use Rattle.run_outcome.proofs.Completes.{not-checked, not-inquired, same-run_request}

-- a text has one answer alone
abbrev pub OneAnswer : Type 0
OneAnswer = (text : List ℕ) (a b : Result Verdict TraceFault) → IsChecked text a → IsChecked text b → a ≡ b

answered : OneAnswer → (text : List ℕ) (F : Flat) (H : List Entry) → IsTextFor text F H → Legal F H → length text ≤ most_trace_bytes → (a : TraceAnswer) → AnswersText text a
    → a ≡ answer.Verdict (verdict.Legal (length H))
answered one text F H stands legal short (answer.Verdict v) h =
    let same : ◌≡◌ {A = Result Verdict TraceFault} (Ok v) (Ok (verdict.Legal (length H))) = one text (Ok v) (Ok (verdict.Legal (length H))) h.1 (F, H, stands, (legal, refl)) in
    let inner : v ≡ verdict.Legal (length H) = cc in
    ap (λ (w : Verdict). answer.Verdict w) inner
answered one text F H stands legal short (answer.Fault f) h =
    absurd (let same : ◌≡◌ {A = Result Verdict TraceFault} (Err f) (Ok (verdict.Legal (length H))) = one text (Err f) (Ok (verdict.Legal (length H))) h.1 (F, H, stands, (legal, refl)) in cc)
answered one text F H stands legal short answer.Long h = absurd (omega (arith, short, h))

-- the whole text begins with the trace, where one was asked for
begins : (trace : Bool) → trace ≡ true → (opening entries sections files : List ℕ)
    → (if trace then opening else []) ++ (((if trace then entries else []) ++ sections) ++ files) ≡ (opening ++ entries) ++ (sections ++ files)
begins true is opening entries sections files = ap (λ (t : List ℕ). opening ++ t) (append_assoc entries sections files) ∙ sym (append_assoc opening entries (sections ++ files))
begins false is opening entries sections files = absurd cc

module _ (one : OneAnswer) (g : Given) (o : Outside) (e : End) where
  by-whole : (w : EndsWhole g o e) → IsTrue w.course.what.options.trace → DisksTell e → PrintsTrace g o w.course.what e
  by-whole w trace tell =
      let c = w.course in
      let begun = w.shown.runs.begun in
      let H = e.history.entries in
      record {
        files = c.files;
        opened = begun.opened;
        trace = traced_text c.what c.files c.bytes e;
        report = sections_or_summary c.what.options.make (plan_opened c.what c.files) H ++ files_or_none c.what.options.make c.infos c.shown;
        wrote = subst (Wrote o.sink_old o.sink_new)
            (begins c.what.options.trace trace (trace_front c.what.plan (sizes_of c.what.plan e.disks) ++ file_sections Trace (infos_of c.files) c.bytes) (entries_text H)
            (sections_or_summary c.what.options.make (plan_opened c.what c.files) H) (files_or_none c.what.options.make c.infos c.shown)) w.wrote;
        stands = begun.traced tell;
        answered = answered one (traced_text c.what c.files c.bytes e) (flat_opened c.what c.files e.disks) H (begun.traced tell) (begun.legal tell);
      }

  -- no other status than 0
  other : (n : ℕ) → 1 ≤ n → e.status ≡ n → (what : Asked) → run_request g ≡ Some (Ok what) → IsTrue what.options.trace → e.status ≡ 0 → DisksTell e → PrintsTrace g o what e
  other n some s what is trace zero tell = absurd (omega (arith, some, s, zero))

  by-case : (how : Ending) → e.status ≡ status_of how → CaseOf g o (wrote_all o) e how → PrintsLegalTrace g o e
  by-case ending.Whole s w = λ what is trace zero tell.
      subst (λ (x : Asked). IsTrue x.options.trace → DisksTell e → PrintsTrace g o x e) (same-run_request g what w.course.what is w.shown.runs.begun.opened.asked) (by-whole w) trace tell
  by-case (ending.Checked (ends.Told a)) s c = λ what is trace zero tell. absurd (not-checked g what a is c.answer)
  by-case (ending.Checked ends.Sink) s c = other 6 (omega arith) s
  by-case (ending.Informed (inquired.Told q)) s c = λ what is trace zero tell. absurd (not-inquired g what q is c.asked)
  by-case (ending.Informed (inquired.Sink q)) s c = other 6 (omega arith) s
  by-case ending.Usage s c = other 2 (omega arith) s
  by-case (ending.NoScript f) s c = other 3 (omega arith) s
  by-case (ending.Refused r) s c = other 4 (omega arith) s
  by-case ending.NotRead s c = other 5 (omega arith) s
  by-case ending.OpeningSink s c = other 6 (omega arith) s
  by-case ending.Sink s c = other 6 (omega arith) s
  by-case (ending.Opening f) s c = other 7 (omega arith) s
  by-case (ending.Closing f) s c = other 7 (omega arith) s
  by-case (ending.Showing f) s c = other 7 (omega arith) s
  by-case ending.Memory s c = other 8 (omega arith) s

  pub prints-trace : RunEnds g o e → PrintsLegalTrace g o e
  prints-trace r = elim r.case [
    | inl told ↦ by-case r.how r.status told.case
    | inr line ↦ other 8 (omega arith) (r.status ∙ ap status_of line.memory)
  ]
