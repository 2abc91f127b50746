use Rattle.std.proofs.Common.{sym, ◌∙◌}
use Rattle.seg_ops.specs.vm_world.World.{world_seen}
use Rattle.test_steps.specs.SlotTrials.{object_spaces}
use Rattle.seg_ops.proofs.SlotOwners.{places_law}
use Rattle.test_steps.proofs.SlotTrialLemmas.{object-changes, object-zero}
use Rattle.seg_ops.proofs.StillSteps.{memory_of}
use Rattle.test_steps.proofs.slot_tests.try_zero.Goals as goal

pub make_zero-requires-clause-empty : goal.make_zero-requires-clause-empty
make_zero-requires-clause-empty c = sym c.get.ensures ∙ c.in-None.is

pub make_zero-requires-clause-fits : goal.make_zero-requires-clause-fits
make_zero-requires-clause-fits c = (object_spaces, c.requires.fits.memory)

pub returns-in-None : goal.returns-in-None
returns-in-None c =
    let w = world_seen c.args.world.now in
    let new_zero = places_law.shown (memory_of w object_spaces) 0 2 c.args.place c.requires.fits.memory object-zero in
    record { fits = object-changes 1 w (world_seen c.make_zero.new.world) c.requires.fits (c.make_zero.ensures.changes object_spaces 1 c.requires.fits.memory new_zero) }
