use Rattle.vm_script.proofs.Places.{by_place, by_cut}
use Rattle.vm_script.proofs.laws.waits_law.Goals as goal

pub returns : goal.returns
returns c = record { places = λ plan H p before after spelled. (by_place plan H p before, by_cut plan H p before after spelled) }
