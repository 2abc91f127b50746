use Rattle.std.proofs.Common.{refl}
use Rattle.hash_chains.specs.Slots.{pair_slot}
use Rattle.hash_chains.proofs.slots.slot_of_pair.Goals as goal

pub returns-clause-slot : goal.returns-clause-slot
unfolding pair_slot
returns-clause-slot c = refl
