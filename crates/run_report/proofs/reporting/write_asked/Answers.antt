use Rattle.std.proofs.Common.{◌≡◌, ◌∙◌, ◌++◌, ℕ, List, ap, subst, sym, true, false}
use Rattle.std.specs.Prelude.{is_some}
use Rattle.std.proofs.lemmas.Result.{IfErr-weaker, on_ok_weaker}
use Rattle.volume_files.specs.vm_report.Report.{process_sections}
use Rattle.run_report.specs.AskedTexts.{trace_entries}
use Rattle.run_report.specs.ReportEnds.{KeptBack, MiddleStops}
use Rattle.run_report.proofs.WrittenPieces.{kept_all, with_sections, without_sections}
use Rattle.run_report.proofs.reporting.write_asked.Goals as goal

pub returns-then-is_some-clause-ok : goal.returns-then-is_some-clause-ok
returns-then-is_some-clause-ok g c =
    let o = c.args.options.now in
    let H = c.args.history.now in
    let made : is_some o.make ≡ true = sym c.is_some.ensures ∙ c.if-is_some.true in
    subst (λ (t : List ℕ). KeptBack (g.K.Sink.seen c.args.out.now) (g.K.Sink.seen c.args.out.now) t c.args.text.now.items) (c.requires.begun ∙ without_sections (trace_entries o H) o.make c.args.plan.now H made)
    (kept_all (g.K.Sink.seen c.args.out.now) c.args.text.now.items)

pub returns-clause-ok : goal.returns-clause-ok
returns-clause-ok g c =
    let o = c.args.options.now in
    let H = c.args.history.now in
    let none : is_some o.make ≡ false = sym c.is_some.ensures ∙ c.if-is_some.false in
    let is = ap (λ (t : List ℕ). t ++ process_sections c.args.plan.now H) c.requires.begun ∙ with_sections (trace_entries o H) o.make c.args.plan.now H none in
    on_ok_weaker c.write_sections.result
    (subst (λ (t : List ℕ). KeptBack (g.K.Sink.seen c.args.out.now) (g.K.Sink.seen c.write_sections.new.out) t c.write_sections.new.text.items) is) c.write_sections.ensures.ok

pub returns-clause-stop : goal.returns-clause-stop
returns-clause-stop g c =
    let o = c.args.options.now in
    let H = c.args.history.now in
    let none : is_some o.make ≡ false = sym c.is_some.ensures ∙ c.if-is_some.false in
    let is = ap (λ (t : List ℕ). t ++ process_sections c.args.plan.now H) c.requires.begun ∙ with_sections (trace_entries o H) o.make c.args.plan.now H none in
    IfErr-weaker c.write_sections.result _ _ (λ how m. subst (λ (t : List ℕ). MiddleStops t (g.K.Sink.seen c.args.out.now) (g.K.Sink.seen c.write_sections.new.out) how) is m)
    c.write_sections.ensures.stop
