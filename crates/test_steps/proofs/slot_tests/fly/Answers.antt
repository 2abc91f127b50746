use Rattle.seg_ops.specs.vm_world.World.{world_seen}
use Rattle.test_steps.specs.SlotTrials.{holding_spaces}
use Rattle.test_steps.proofs.PageTrialLemmas.{trial-returns}
use Rattle.test_steps.proofs.slot_tests.fly.Goals as goal

pub returns-in-Ok : goal.returns-in-Ok
returns-in-Ok c = record { fits = trial-returns holding_spaces (world_seen c.args.world.now) (world_seen c.end_flight.new.world) c.args.flight c.perform-result.new.self c.requires.out c.perform-result.ensures.performed (c.end_flight.ensures.step holding_spaces) }

pub returns-in-Err : goal.returns-in-Err
returns-in-Err c = record { fits = trial-returns holding_spaces (world_seen c.args.world.now) (world_seen c.end_flight.new.world) c.args.flight c.perform-result.new.self c.requires.out c.perform-result.ensures.performed (c.end_flight.ensures.step holding_spaces) }
