use Rattle.trace_check.proofs.Meanings.{one_meaning}
use Rattle.trace_check.proofs.check_laws.one_meaning_law.Goals as goal

pub returns : goal.returns
returns c = one_meaning c.one_trace_law.ensures
