use Rattle.seg_ops.specs.vm_world.World.{world_seen}
use Rattle.seg_map.specs.Puts.{with_bytes_in}
use Rattle.test_steps.specs.PageTrials.{trial_spaces}
use Rattle.test_steps.proofs.PageTrialLemmas.{trial-changes}
use Rattle.std.proofs.Common.{[], ◌∷◌, ◌%◌, ◌/◌}
use Rattle.test_steps.proofs.file_tests.try_put.Goals as goal

pub returns-else-listed : goal.returns-else-listed
returns-else-listed c = record {
  fits = trial-changes (world_seen c.args.world.now) (world_seen c.put.new.world) 0 (with_bytes_in (c.args.offset / 4096) (c.args.offset % 4096) (c.args.byte ∷ [])) c.requires.fits (c.put.ensures.puts trial_spaces c.requires.fits.memory);
}
