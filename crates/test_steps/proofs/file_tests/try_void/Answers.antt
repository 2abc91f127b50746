use Rattle.seg_ops.specs.vm_world.World.{world_seen}
use Rattle.seg_map.specs.Voids.{with_page_void}
use Rattle.test_steps.specs.PageTrials.{trial_spaces}
use Rattle.test_steps.proofs.PageTrialLemmas.{trial-changes}
use Rattle.test_steps.proofs.file_tests.try_void.Goals as goal

pub returns : goal.returns
returns c = record { fits = trial-changes (world_seen c.args.world.now) (world_seen c.void_page.new.world) 0 (with_page_void c.args.page) c.requires.fits (c.void_page.ensures.voids trial_spaces c.requires.fits.memory) }
