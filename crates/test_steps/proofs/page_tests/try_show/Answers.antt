use Rattle.std.proofs.Common.{false, arith}
use Rattle.seg_ops.specs.vm_world.World.{world_seen}
use Rattle.test_steps.specs.PageTrials.{trial_spaces}
use Rattle.test_steps.proofs.PageTrialLemmas.{trial-step, trial-show}
use Rattle.test_steps.proofs.page_tests.try_show.Goals as goal

pub returns-else-page-ge3 : goal.returns-else-page-ge3
returns-else-page-ge3 c =
    let low = c.if-page-ge3.false in
    record {
      fits = trial-step (world_seen c.args.world.now) (world_seen c.show.new.world) (λ name. false) c.requires.fits
          (c.show.ensures.keeps trial_spaces c.requires.fits.memory (trial-show (world_seen c.args.world.now) c.args.page c.page_of_file-name.result (omega (arith, low)) c.page_of_file-name.ensures));
    }
