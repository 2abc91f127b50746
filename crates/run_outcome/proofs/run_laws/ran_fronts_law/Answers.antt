use Rattle.run_outcome.proofs.RunLaws.{ran-so}
use Rattle.run_outcome.proofs.run_laws.ran_fronts_law.Goals as goal

pub returns : goal.returns
returns c = ran-so
