use Rattle.seg_ops.specs.vm_world.World.{world_seen}
use Rattle.test_steps.specs.SlotTrials.{object_spaces}
use Rattle.test_steps.proofs.SlotTrialLemmas.{object-changes, object-unloaded}
use Rattle.test_steps.proofs.slot_tests.try_drop.Goals as goal

pub drop_object-requires-clause-shown : goal.drop_object-requires-clause-shown
drop_object-requires-clause-shown c = (
  object_spaces,
  0,
  c.requires.fits.memory,
  object-unloaded (world_seen c.args.world.now) c.requires.fits (c.is_unloaded-first.ensures c.if-not-first.false) (c.is_unloaded-second.ensures c.if-not-second.false) (c.is_unloaded-third.ensures c.if-not-third.false),
)

pub returns : goal.returns
returns c =
    let w = world_seen c.args.world.now in
    let unloaded = object-unloaded w c.requires.fits (c.is_unloaded-first.ensures c.if-not-first.false) (c.is_unloaded-second.ensures c.if-not-second.false) (c.is_unloaded-third.ensures c.if-not-third.false) in
    record { fits = object-changes 1 w (world_seen c.drop_object.new.world) c.requires.fits (c.drop_object.ensures.changes object_spaces 1 0 c.requires.fits.memory unloaded) }
