use Rattle.seg_ops.specs.vm_world.World.{world_seen}
use Rattle.test_steps.specs.PageTrials.{IsTrialIn}
use Rattle.test_steps.specs.SlotTrials.{holding_spaces}
use Rattle.test_steps.proofs.slot_tests.make_all.Given as goal

abbrev pub invariant-loop-place : goal.invariant-loop-place
invariant-loop-place l = IsTrialIn holding_spaces (world_seen l.world)
