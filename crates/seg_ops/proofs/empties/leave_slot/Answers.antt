use Rattle.std.proofs.Common.{sym, ap, subst}
use Rattle.vm_world.specs.World.{World, world_seen}
use Rattle.seg_ops.specs.Empties.{EmptiesPlace}
use Rattle.seg_ops.proofs.SlotKept.{kept-place}
use Rattle.seg_ops.proofs.SlotLeaves.{owned-unloaded}
use Rattle.seg_ops.proofs.SlotUnheld.{changes-left}
use Rattle.seg_ops.proofs.empties.leave_slot.Goals as goal

pub returns-clause-empties : goal.returns-clause-empties
returns-clause-empties g c = λ spaces p q x fits owns unloaded.
    subst (λ (v : World). EmptiesPlace (world_seen c.args.world.now) v spaces c.args.map c.args.place c.args.slot) (sym (ap world_seen c.take_out.ensures.rest))
    (kept-place (world_seen c.args.world.now) spaces c.take_out.new.world.anon c.take_out.new.world.maps c.args.map c.args.place c.args.slot fits c.take_out.ensures.leaves c.requires.shared
    (owned-unloaded (world_seen c.args.world.now) spaces p q c.args.map c.args.place x fits owns unloaded))

pub returns-clause-changes : goal.returns-clause-changes
returns-clause-changes g c = λ spaces p q x fits owns unloaded.
    changes-left p q x (world_seen c.args.world.now) (world_seen c.take_out.new.world) spaces c.args.map c.args.place c.args.slot fits (returns-clause-empties g c spaces p q x fits owns unloaded) owns
