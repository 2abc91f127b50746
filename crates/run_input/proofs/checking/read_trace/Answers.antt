use Rattle.std.proofs.Common.{arith}
use Rattle.run_input.proofs.TracesRead.{keeps-answers}
use Rattle.run_input.proofs.checking.read_trace.Goals as goal

pub returns-in-Ok-clause-text : goal.returns-in-Ok-clause-text
returns-in-Ok-clause-text g c =
    let size = c.in-Ok.text.ok.0 in
    keeps-answers (g.S.Source.seen c.args.source.now).rest (g.S.Source.seen c.read_to_limit.new.source).rest c.in-Ok.text.items c.in-Ok.ensures.bytes
    (λ short. c.in-Ok.ensures.end (omega (arith, size, short)))
