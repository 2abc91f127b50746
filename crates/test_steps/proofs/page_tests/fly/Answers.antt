use Rattle.seg_ops.specs.vm_world.World.{world_seen}
use Rattle.test_steps.proofs.PageTrialLemmas.{trial-back}
use Rattle.test_steps.proofs.page_tests.fly.Goals as goal

pub returns-in-Ok : goal.returns-in-Ok
returns-in-Ok c = record { fits = trial-back (world_seen c.args.world.now) (world_seen c.end_flight.new.world) c.args.flight c.perform-result.new.self c.requires.out c.perform-result.ensures.performed c.end_flight.ensures.step }

pub returns-in-Err : goal.returns-in-Err
returns-in-Err c = record { fits = trial-back (world_seen c.args.world.now) (world_seen c.end_flight.new.world) c.args.flight c.perform-result.new.self c.requires.out c.perform-result.ensures.performed c.end_flight.ensures.step }
