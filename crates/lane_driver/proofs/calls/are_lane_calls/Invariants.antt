use Rattle.lane_driver.proofs.FirstCalls.{AreFirst}
use Rattle.lane_driver.proofs.calls.are_lane_calls.Given as goal

abbrev pub invariant-loop-place : goal.invariant-loop-place
invariant-loop-place l = AreFirst l.calls l.place
