use Rattle.trace_text.proofs.OneTrace.{one_trace}
use Rattle.trace_text.proofs.trace_laws.one_trace_law.Goals as goal

pub returns : goal.returns
returns c = one_trace
