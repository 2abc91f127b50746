use Rattle.std.proofs.Common.{set, ◌+◌, true, ◌≡◌, ◌∙◌, Option, ℕ, ap, sym, subst, arith, position, ◌==◌}
use Rattle.std.specs.Option.{IsSome}
use Rattle.anon_slots.specs.Slots.{AnonSlotsSeen, slots_in_use, count_at}
use Rattle.anon_slots.proofs.KeptLemmas.{kept_made, used_made, has_unused, unused_at, area_first}
use Rattle.anon_slots.proofs.AnonSlots.make.Goals as goal

pub unwrap-slot-requires : goal.unwrap-slot-requires
unwrap-slot-requires c =
    subst (λ (o : Option ℕ). IsSome o) (sym (c.alloc.ensures.least ∙ area_first c.self.inside.area c.self.inside.counts.items c.self.invariant.marked))
    (has_unused c.self.inside.counts.items (omega
    (arith, c.self.invariant.counted, c.self.invariant.within, c.requires, ap slots_in_use c.self.view_is, ap (λ (s : AnonSlotsSeen). s.reserved) c.self.view_is)))

pub returns-clause-least : goal.returns-clause-least
returns-clause-least c =
    ap (λ (s : AnonSlotsSeen). position (λ count. count == 0) s.counts) (sym c.self.view_is)
    ∙ sym (c.alloc.ensures.least ∙ area_first c.self.inside.area c.self.inside.counts.items c.self.invariant.marked)
    ∙ c.unwrap-slot.ensures

pub invariant_of-self : goal.invariant_of-self
invariant_of-self c =
    let first = sym (c.alloc.ensures.least ∙ area_first c.self.inside.area c.self.inside.counts.items c.self.invariant.marked) ∙ c.unwrap-slot.ensures in
    let at = unused_at c.self.inside.counts.items c.unwrap-slot.result first in
    let taken : c.alloc.new.self ≡ set c.self.inside.area c.unwrap-slot.result true = rw c.unwrap-slot.ensures at c.alloc.ensures.taken in
    rw taken
    (kept_made c.self.inside.area c.self.inside.counts.items c.self.inside.swapped.items c.self.inside.reserved c.self.inside.in_use c.unwrap-slot.result _ _ c.self.invariant at.0 at.1
    (omega (arith, c.self.invariant.counted, c.requires, ap slots_in_use c.self.view_is, ap (λ (s : AnonSlotsSeen). s.reserved) c.self.view_is))
    (omega arith))

pub returns-clause-free : goal.returns-clause-free
returns-clause-free c =
    let first = sym (c.alloc.ensures.least ∙ area_first c.self.inside.area c.self.inside.counts.items c.self.invariant.marked) ∙ c.unwrap-slot.ensures in
    ap (λ (s : AnonSlotsSeen). count_at s c.unwrap-slot.result) (sym c.self.view_is) ∙ (unused_at c.self.inside.counts.items c.unwrap-slot.result first).1

pub returns-clause-in_use : goal.returns-clause-in_use
returns-clause-in_use c =
    let first = sym (c.alloc.ensures.least ∙ area_first c.self.inside.area c.self.inside.counts.items c.self.invariant.marked) ∙ c.unwrap-slot.ensures in
    let at = unused_at c.self.inside.counts.items c.unwrap-slot.result first in
    used_made c.self.inside.counts.items c.unwrap-slot.result at.0 at.1 ∙ ap (λ (s : AnonSlotsSeen). slots_in_use s + 1) c.self.view_is
