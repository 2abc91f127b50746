use Rattle.trace_text.proofs.OpeningAgain.{one_opening_line}
use Rattle.trace_text.proofs.trace_laws.one_opening_line_law.Goals as goal

pub returns : goal.returns
returns c = one_opening_line
