use Rattle.run_report.proofs.WrittenPieces.{kept_all, kept_none}
use Rattle.run_report.proofs.reporting.send_long.Goals as goal

pub returns-clause-ok : goal.returns-clause-ok
returns-clause-ok g c =
    kept_none (g.K.Sink.seen c.args.out.now) (g.K.Sink.seen c.send.new.out) c.args.text.now.items c.send.new.text.items c.in_ok-send.ensures.ok c.in_ok-send.ensures.empty

pub returns-then-len-lt-LONG-clause-ok : goal.returns-then-len-lt-LONG-clause-ok
returns-then-len-lt-LONG-clause-ok g c = kept_all (g.K.Sink.seen c.args.out.now) c.args.text.now.items
