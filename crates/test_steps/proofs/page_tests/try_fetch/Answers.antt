use Rattle.std.proofs.Common.{false}
use Rattle.seg_ops.specs.vm_world.World.{world_seen}
use Rattle.test_steps.specs.PageTrials.{trial_spaces}
use Rattle.test_steps.proofs.PageTrialLemmas.{trial-step}
use Rattle.test_steps.proofs.page_tests.try_fetch.Goals as goal

pub returns-in-Absent : goal.returns-in-Absent
returns-in-Absent c = record { fits = trial-step (world_seen c.args.world.now) (world_seen c.fetch.new.world) (λ name. false) c.requires.fits (c.fetch.ensures.makes.keeps trial_spaces c.requires.fits.memory) }
