use Rattle.std.proofs.Common.{arith}
use Rattle.anon_slots.proofs.KeptLemmas.{kept_none}
use Rattle.anon_slots.proofs.AnonSlots.new.Goals as goal

pub invariant_of-result : goal.invariant_of-result
invariant_of-result c =
    rw (c.in_ok-area.ensures, c.in_ok-counts.ensures, c.in_ok-swapped.ensures)
    (kept_none c.args.slots (omega arith))
