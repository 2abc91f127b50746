use Rattle.vm_script.proofs.SetupLines.{sound_setup}
use Rattle.vm_script.proofs.laws.setup_law.Goals as goal

pub returns : goal.returns
returns c = record { setup = sound_setup }
