use Rattle.std.proofs.Common.{arith}
use Rattle.std.proofs.lemmas.List.{length-map}
use Rattle.vm_script.proofs.Cursors as text
use Rattle.vm_script.proofs.splitting.put.Goals as goal

pub returns-else-len-lt8 : goal.returns-else-len-lt8
returns-else-len-lt8 c =
    let count = length-map c.args.fields.now.items (λ f. f.now) in
    record { fields = text.full_front 8 _ _ (omega (arith, count, c.if-len-lt8.false, c.len.ensures.value)) (omega (arith, count, c.requires.few)); few = c.requires.few }
