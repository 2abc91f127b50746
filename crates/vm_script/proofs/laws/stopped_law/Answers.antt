use Rattle.vm_script.proofs.Tellings.{front}
use Rattle.vm_script.proofs.laws.stopped_law.Goals as goal

pub returns : goal.returns
returns c = record { front = front }
