use Rattle.vm_script.proofs.Places.{by_place}
use Rattle.vm_script.proofs.told_laws.told_waits_law.Goals as goal

pub returns : goal.returns
returns c = record { behind = λ plan H lines_of p before after wait told born is act. by_place plan H p before (told.waits p born before after wait is act) }
