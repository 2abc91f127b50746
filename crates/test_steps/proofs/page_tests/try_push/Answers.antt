use Rattle.std.proofs.Common.{false}
use Rattle.seg_ops.specs.vm_world.World.{world_seen}
use Rattle.test_steps.specs.PageTrials.{trial_spaces}
use Rattle.test_steps.proofs.PageTrialLemmas.{trial-step}
use Rattle.test_steps.proofs.page_tests.try_push.Goals as goal

pub push_gathered-requires-clause-fits : goal.push_gathered-requires-clause-fits
push_gathered-requires-clause-fits c = trial-step (world_seen c.args.world.now) (world_seen c.sync.new.world) (λ name. false) c.requires.fits (c.sync.ensures.makes.keeps trial_spaces c.requires.fits.memory)
