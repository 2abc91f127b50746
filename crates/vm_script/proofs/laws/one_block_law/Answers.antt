use Rattle.vm_script.proofs.OneBlock.{alone, told}
use Rattle.vm_script.proofs.laws.one_block_law.Goals as goal

pub returns : goal.returns
returns c = record { one = λ plan H one. (alone plan H one, told plan H one) }
