use Rattle.run_outcome.proofs.RunLaws.{fails-so, whole-so}
use Rattle.run_outcome.proofs.run_laws.status_law.Goals as goal

pub returns : goal.returns
returns c = record { whole = whole-so; failed = fails-so }
