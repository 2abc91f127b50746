use Rattle.vm_script.proofs.told_laws.told_front_law.Goals as goal

pub returns : goal.returns
returns c = record { front = λ plan H p told born. (told.lines_of p, told.front p born, told.tells.own p born) }
