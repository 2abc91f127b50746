use Rattle.run_outcome.proofs.RunLaws.{as-asked}
use Rattle.run_outcome.proofs.run_laws.as_asked_law.Goals as goal

pub returns : goal.returns
returns c = record { asked = as-asked }
