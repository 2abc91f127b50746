use Rattle.std.proofs.Common.{ap, arith}
use Rattle.anon_slots.specs.Slots.{AnonSlotsSeen, count_at}
use Rattle.anon_slots.proofs.KeptLemmas.{kept_count}
use Rattle.anon_slots.proofs.AnonSlots.dup.Goals as goal

pub invariant_of-self : goal.invariant_of-self
invariant_of-self c =
    kept_count c.self.inside.area c.self.inside.counts.items c.self.inside.swapped.items c.self.inside.reserved c.self.inside.in_use c.args.slot _ c.self.invariant
    (omega (arith, c.requires.in_use, ap (λ (s : AnonSlotsSeen). count_at s c.args.slot) c.self.view_is))
    (omega (arith, c.index_mut.ensures.value, c.requires.in_use, ap (λ (s : AnonSlotsSeen). count_at s c.args.slot) c.self.view_is))
