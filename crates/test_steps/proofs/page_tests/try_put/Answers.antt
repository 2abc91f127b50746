use Rattle.std.proofs.Common.{false}
use Rattle.seg_ops.specs.vm_world.World.{world_seen}
use Rattle.test_steps.specs.PageTrials.{trial_spaces}
use Rattle.test_steps.proofs.PageTrialLemmas.{trial-step, trial-put}
use Rattle.test_steps.proofs.page_tests.try_put.Goals as goal

pub write-requires-clause-fits : goal.write-requires-clause-fits
write-requires-clause-fits c = (trial_spaces, (c.frame_for.ensures.keeps trial_spaces c.requires.fits.memory).memory)

pub returns-in-Some : goal.returns-in-Some
returns-in-Some c =
    let noted = trial-step (world_seen c.args.world.now) (world_seen c.frame_for.new.world) (λ name. false) c.requires.fits (c.frame_for.ensures.keeps trial_spaces c.requires.fits.memory) in
    record { fits = trial-put (world_seen c.frame_for.new.world) (world_seen c.write.new.world) 1 c.args.addr 4 c.args.value noted (c.write.ensures.writes trial_spaces 1 noted.memory c.in-Some.ensures.noted) }
