use Rattle.seg_ops.specs.vm_world.World.{world_seen}
use Rattle.test_steps.specs.PageTrials.{IsTrial}
use Rattle.test_steps.proofs.page_tests.make_all.Given as goal

abbrev pub invariant-loop-place : goal.invariant-loop-place
invariant-loop-place l = IsTrial (world_seen l.world)
