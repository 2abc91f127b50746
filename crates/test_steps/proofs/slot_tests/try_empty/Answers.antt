use Rattle.seg_ops.specs.vm_world.World.{world_seen}
use Rattle.test_steps.specs.SlotTrials.{holding_page, holding_segment, holding_spaces}
use Rattle.test_steps.proofs.SlotTrialLemmas.{holding-changes}
use Rattle.test_steps.proofs.slot_tests.try_empty.Goals as goal

pub returns-then-count-eq1 : goal.returns-then-count-eq1
returns-then-count-eq1 c =
    let place = c.is_place.ensures c.if-not-is_place.false in
    record { fits = holding-changes 1 (world_seen c.args.world.now) (world_seen c.drop_slot.new.world) c.requires.fits (c.drop_slot.ensures.changes holding_spaces 1 (holding_page c.args.map c.args.place) (holding_segment c.args.map, c.args.place) c.requires.fits.memory place.owns place.unloaded) }

pub returns-else-count-eq1 : goal.returns-else-count-eq1
returns-else-count-eq1 c =
    let place = c.is_place.ensures c.if-not-is_place.false in
    record { fits = holding-changes 1 (world_seen c.args.world.now) (world_seen c.leave_slot.new.world) c.requires.fits (c.leave_slot.ensures.changes holding_spaces 1 (holding_page c.args.map c.args.place) (holding_segment c.args.map, c.args.place) c.requires.fits.memory place.owns place.unloaded) }
