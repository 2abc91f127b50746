use Rattle.run_outcome.proofs.RunLaws.{all-back}
use Rattle.run_outcome.proofs.run_laws.disks_back_law.Goals as goal

pub returns : goal.returns
returns c = record { back = all-back }
