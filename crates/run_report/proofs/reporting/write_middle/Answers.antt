use Rattle.std.proofs.Common.{◌∙◌}
use Rattle.std.proofs.lemmas.Result.{IfErr-weaker, on_ok_weaker}
use Rattle.run_report.specs.AskedTexts.{middle_text}
use Rattle.run_report.proofs.Unfailing.{unless-ended}
use Rattle.run_report.proofs.WrittenPieces.{kept_written, rest_stop}
use Rattle.run_report.proofs.reporting.write_middle.Goals as goal

pub returns-clause-ok : goal.returns-clause-ok
returns-clause-ok g c =
    on_ok_weaker c.send.result
    (kept_written (g.K.Sink.seen c.args.out.now) (g.K.Sink.seen c.write_asked.new.out) (g.K.Sink.seen c.send.new.out) (middle_text c.args.options.now c.args.plan.now c.args.history.now)
    c.write_asked.new.text.items c.in_ok-write_asked.ensures.ok)
    c.send.ensures.ok

pub returns-clause-stop : goal.returns-clause-stop
returns-clause-stop g c =
    IfErr-weaker c.send.result _ _
    (rest_stop (g.K.Sink.seen c.args.out.now) (g.K.Sink.seen c.write_asked.new.out) (g.K.Sink.seen c.send.new.out) (middle_text c.args.options.now c.args.plan.now c.args.history.now)
    c.write_asked.new.text.items c.in_ok-write_asked.ensures.ok c.write_asked.ensures.later)
    c.send.ensures.stop

pub returns-clause-steady : goal.returns-clause-steady
returns-clause-steady g c = unless-ended c.send.result (λ same. same ∙ c.in_ok-write_asked.ensures.steady) c.send.ensures.steady
