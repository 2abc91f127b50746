use Rattle.vm_script.proofs.Nesting.{sound}
use Rattle.vm_script.proofs.laws.sound_law.Goals as goal

pub returns : goal.returns
returns c = record { sound = sound }
