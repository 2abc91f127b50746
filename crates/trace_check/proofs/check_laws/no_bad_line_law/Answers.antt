use Rattle.trace_check.proofs.Meanings.{no_bad_line}
use Rattle.trace_check.proofs.check_laws.no_bad_line_law.Goals as goal

pub returns : goal.returns
returns c = λ text F H line stands. no_bad_line text F H line stands
