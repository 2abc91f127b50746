use Rattle.vm_report.proofs.FileLines.{file_lines_append}
use Rattle.vm_report.proofs.laws.file_lines_law.Goals as goal

pub returns : goal.returns
returns c = record { pieces = file_lines_append }
