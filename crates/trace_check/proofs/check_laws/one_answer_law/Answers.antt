use Rattle.trace_check.proofs.Meanings.{one_answer}
use Rattle.trace_check.proofs.check_laws.one_answer_law.Goals as goal

pub returns : goal.returns
returns c = one_answer c.one_meaning_law.ensures
