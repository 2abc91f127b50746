use Rattle.vm_script.proofs.Scripts.{parsed}
use Rattle.vm_script.proofs.laws.print_and_parse_law.Goals as goal

pub returns : goal.returns
returns c = record { read = parsed }
