use Rattle.seg_ops.specs.vm_world.World.{world_seen}
use Rattle.std.proofs.Common.{false}
use Rattle.test_steps.specs.PageTrials.{trial_spaces}
use Rattle.test_steps.proofs.PageTrialLemmas.{trial-step}
use Rattle.test_steps.proofs.page_tests.try_room.Goals as goal

pub returns-in-None : goal.returns-in-None
returns-in-None c = record { fits = trial-step (world_seen c.args.world.now) (world_seen c.make_room.new.world) (λ name. false) c.requires.fits (c.make_room.ensures.makes.keeps trial_spaces c.requires.fits.memory) }

pub returns-in-Some : goal.returns-in-Some
returns-in-Some c = record { fits = trial-step (world_seen c.args.world.now) (world_seen c.make_room.new.world) (λ name. false) c.requires.fits (c.make_room.ensures.makes.keeps trial_spaces c.requires.fits.memory) }
