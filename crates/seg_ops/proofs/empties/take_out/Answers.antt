use Rattle.std.proofs.Common.{List, Option, None, sym, subst, slice_set}
use Rattle.vm_world.specs.anon_map.Maps.{Map, places_of, with_places}
use Rattle.vm_world.specs.anon_slots.Slots.{AnonSlotsSeen, IsSoundAnonSlots}
use Rattle.vm_world.specs.World.{world_seen}
use Rattle.vm_world.proofs.Counts.{held-used}
use Rattle.seg_ops.specs.Empties.{LeavesSlot}
use Rattle.seg_ops.proofs.SlotLeaves.{left-slot}
use Rattle.seg_ops.proofs.empties.take_out.Goals as goal

pub drop_one-requires : goal.drop_one-requires
drop_one-requires g c = held-used c.args.world.now.anon c.args.world.now.maps c.args.map c.args.place c.args.slot c.requires.fits.1.counts c.requires.holds

pub returns-clause-leaves : goal.returns-clause-leaves
returns-clause-leaves g c =
    let w = world_seen c.args.world.now in
    let s = c.args.slot in
    let sound = subst IsSoundAnonSlots c.drop_one.ensures.new c.drop_one.ensures.sound in
    subst (λ (ps : List (Option Map)). LeavesSlot w.anon c.drop_one.new.self w.maps ps c.args.map c.args.place s) (sym c.set.ensures)
    (subst (λ (a : AnonSlotsSeen). LeavesSlot w.anon a w.maps (with_places w.maps c.args.map (slice_set (places_of w.maps c.args.map) c.args.place None)) c.args.map c.args.place s) (sym c.drop_one.ensures.new)
    (left-slot w.anon w.maps c.args.map c.args.place s c.requires.fits.1.counts sound c.requires.within c.requires.holds))
