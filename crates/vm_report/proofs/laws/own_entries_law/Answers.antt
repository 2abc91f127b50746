use Rattle.vm_report.proofs.Spelled.{prints_own}
use Rattle.vm_report.proofs.laws.own_entries_law.Goals as goal

pub returns : goal.returns
returns c = record { line = prints_own }
