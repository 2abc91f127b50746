use Rattle.vm_script.specs.Told.{own_lines}
use Rattle.vm_script.proofs.Tellings.{tells}
use Rattle.vm_script.proofs.laws.all_ended_law.Goals as goal

pub returns : goal.returns
returns c = record { told = λ plan H seen all. tells plan H seen (own_lines plan) all }
