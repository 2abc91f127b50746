use Rattle.std.proofs.Common.{false}
use Rattle.seg_ops.specs.vm_world.World.{world_seen}
use Rattle.test_steps.specs.PageTrials.{trial_spaces}
use Rattle.test_steps.proofs.PageTrialLemmas.{trial-step}
use Rattle.test_steps.proofs.page_tests.try_get.Goals as goal

pub read-requires-clause-fits : goal.read-requires-clause-fits
read-requires-clause-fits c = (trial_spaces, (c.frame_for.ensures.keeps trial_spaces c.requires.fits.memory).memory)

pub returns-in-Some : goal.returns-in-Some
returns-in-Some c = record { fits = trial-step (world_seen c.args.world.now) (world_seen c.frame_for.new.world) (λ name. false) c.requires.fits (c.frame_for.ensures.keeps trial_spaces c.requires.fits.memory) }
