use Rattle.swap_slots.proofs.BitLemmas.{flags_more}
use Rattle.swap_slots.proofs.bits.first_clear.Goals as goal

pub loop-i-preserved : goal.loop-i-preserved
loop-i-preserved c = flags_more c.args.words.now c.loop-i.i c.if-word.false c.loop-i.invariant
