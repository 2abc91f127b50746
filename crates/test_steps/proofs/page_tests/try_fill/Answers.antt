use Rattle.seg_ops.specs.page_hash.Names.{is_name}
use Rattle.seg_ops.specs.page_store.Steps.{next_name}
use Rattle.seg_ops.specs.vm_world.World.{world_seen}
use Rattle.test_steps.specs.PageTrials.{trial_spaces}
use Rattle.test_steps.proofs.PageTrialLemmas.{trial-step}
use Rattle.test_steps.proofs.page_tests.try_fill.Goals as goal

pub returns-in-Absent : goal.returns-in-Absent
returns-in-Absent c = record { fits = trial-step (world_seen c.args.world.now) (world_seen c.fill.new.world) (is_name (next_name c.args.world.now.store)) c.requires.fits (c.fill.ensures.pages trial_spaces c.requires.fits.memory) }
