use Rattle.std.proofs.Common.{◌*◌, ◌+◌}
use Rattle.seg_ops.specs.vm_world.World.{world_seen}
use Rattle.test_steps.specs.SlotTrials.{holding_spaces}
use Rattle.test_steps.proofs.SlotTrialLemmas.{holding-changes, holding-places, holding-both}
use Rattle.test_steps.proofs.slot_tests.try_clear.Goals as goal

pub drop_places-requires-clause-owned : goal.drop_places-requires-clause-owned
drop_places-requires-clause-owned c =
    let w = world_seen c.args.world.now in
    let first = c.is_place.ensures c.if-not-is_place.false in
    let second = c.is_place-else-not-is_place.ensures c.if-not-is_place-2.false in
    (holding_spaces, 1, 2 * c.args.map + 1, c.requires.fits.memory, holding-places w c.args.map c.if-map-ge2.false (holding-both w c.args.map first.unloaded second.unloaded))

pub returns : goal.returns
returns c =
    let w = world_seen c.args.world.now in
    let first = c.is_place.ensures c.if-not-is_place.false in
    let second = c.is_place-else-not-is_place.ensures c.if-not-is_place-2.false in
    let owns = holding-places w c.args.map c.if-map-ge2.false (holding-both w c.args.map first.unloaded second.unloaded) in
    record { fits = holding-changes 1 w (world_seen c.drop_places.new.world) c.requires.fits (c.drop_places.ensures.changes holding_spaces 1 (2 * c.args.map + 1) c.requires.fits.memory owns) }
