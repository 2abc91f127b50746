use Rattle.std.proofs.Common.{arith, rules, refl}
use Rattle.std.proofs.lemmas.List.{replicate-append-replicate, take_all}
use Rattle.filled.proofs.filled.Goals as goal

pub loop-item-preserved : goal.loop-item-preserved
loop-item-preserved g c = record { item = refl; made = search (rules, replicate-append-replicate, take_all, c.loop-item.invariant.made); within = search (rules, arith) }
