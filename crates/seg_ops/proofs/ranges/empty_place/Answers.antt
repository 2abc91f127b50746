use Rattle.std.proofs.Common.{◌≡◌, None, refl, sym, ap, ◌∙◌, subst}
use Rattle.vm_world.specs.anon_slots.Slots.{count_at}
use Rattle.vm_world.specs.Serving.{ModifiesNone}
use Rattle.vm_world.specs.World.{World, world_seen}
use Rattle.vm_world.proofs.Counts.{held-used, used-below}
use Rattle.seg_ops.proofs.Modified.{modifies-same, modifies-tables}
use Rattle.seg_ops.proofs.SlotObjects.{one-emptied, none-emptied}
use Rattle.seg_ops.proofs.SlotPlaces.{place-same}
use Rattle.seg_ops.proofs.SlotRanges.{changes-empty}
use Rattle.seg_ops.proofs.ranges.empty_place.Goals as goal

pub returns-in_default-clause-maps : goal.returns-in_default-clause-maps
returns-in_default-clause-maps g c = sym (place-same c.args.world.now.maps c.args.map c.args.place None c.requires.there (sym c.get.ensures ∙ c.in_default.is))

pub returns-in_default-clause-changes : goal.returns-in_default-clause-changes
returns-in_default-clause-changes g c = λ spaces p q x fits owns unloaded. changes-empty p q x (world_seen c.args.world.now) spaces c.args.map c.args.place fits owns (sym c.get.ensures ∙ c.in_default.is)

pub count-requires : goal.count-requires
count-requires g c = used-below c.args.world.now.anon.counts c.in-Some.slot (held-used c.args.world.now.anon c.args.world.now.maps c.args.map c.args.place c.in-Some.slot c.requires.fits.1.counts (sym c.get.ensures ∙ c.in-Some.is))

pub returns-in_default-clause-zeros : goal.returns-in_default-clause-zeros
returns-in_default-clause-zeros g c = λ spaces z fits shows. none-emptied (world_seen c.args.world.now) spaces c.args.map c.args.place fits (sym c.get.ensures ∙ c.in_default.is)

pub returns-then-count-eq1-clause-zeros : goal.returns-then-count-eq1-clause-zeros
returns-then-count-eq1-clause-zeros g c = λ spaces z fits shows.
    one-emptied (world_seen c.args.world.now) (world_seen c.drop_slot.new.world) spaces c.args.map c.args.place c.in-Some.slot (c.drop_slot.ensures.zeros spaces z fits shows)

-- a slot that a zero object's map holds is held there alone
pub returns-else-count-eq1-clause-zeros : goal.returns-else-count-eq1-clause-zeros
returns-else-count-eq1-clause-zeros g c = λ spaces z fits shows.
    let one : count_at c.args.world.now.anon c.in-Some.slot ≡ 1 = fits.segments.once z c.args.map c.args.place c.in-Some.slot shows.zero (sym c.get.ensures ∙ c.in-Some.is) in
    absurd (c.if-count-eq1.false (c.count.ensures ∙ one))

-- no page becomes modified: nothing happens, a slot alone is left, or its page is given up
pub returns-in_default-clause-modified : goal.returns-in_default-clause-modified
returns-in_default-clause-modified g c = modifies-same (world_seen c.args.world.now)

pub returns-else-count-eq1-clause-modified : goal.returns-else-count-eq1-clause-modified
returns-else-count-eq1-clause-modified g c =
    let w = world_seen c.args.world.now in
    subst (λ (v : World). ModifiesNone w v) (sym (ap world_seen c.leave_slot.ensures.rest)) (modifies-tables w (record w { anon = c.leave_slot.new.world.anon; maps = c.leave_slot.new.world.maps }) refl refl)
