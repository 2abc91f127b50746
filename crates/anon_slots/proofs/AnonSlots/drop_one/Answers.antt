use Rattle.std.proofs.Common.{ap, arith}
use Rattle.anon_slots.specs.Slots.{AnonSlotsSeen, count_at}
use Rattle.anon_slots.proofs.KeptLemmas.{kept_count, kept_dropped}
use Rattle.anon_slots.proofs.AnonSlots.drop_one.Goals as goal

pub invariant_of-self : goal.invariant_of-self
invariant_of-self c =
    kept_count c.self.inside.area c.self.inside.counts.items c.self.inside.swapped.items c.self.inside.reserved c.self.inside.in_use c.args.slot _ c.self.invariant
    (omega (arith, c.requires, ap (λ (s : AnonSlotsSeen). count_at s c.args.slot) c.self.view_is))
    (omega (arith, c.if-left-ne0.true))

pub invariant_of-self-2 : goal.invariant_of-self-2
invariant_of-self-2 c =
    rw (c.free.ensures, c.if-left-ne0.false)
    (kept_dropped c.self.inside.area c.self.inside.counts.items c.self.inside.swapped.items c.self.inside.reserved c.self.inside.in_use c.args.slot c.self.invariant
    (omega (arith, c.requires, ap (λ (s : AnonSlotsSeen). count_at s c.args.slot) c.self.view_is)))
