use Rattle.vm_script.proofs.FaultLines.{fault_line}
use Rattle.vm_script.proofs.laws.fault_line_law.Goals as goal

pub returns : goal.returns
returns c = record { line = λ text fault is. (fault_line text fault is).0; long = λ text fault is. (fault_line text fault is).1 }
