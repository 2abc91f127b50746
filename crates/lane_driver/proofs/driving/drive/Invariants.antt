use Rattle.std.proofs.Common.{take}
use Rattle.lane_driver.proofs.Orders.{HaveGone}
use Rattle.lane_driver.proofs.driving.drive.Given as goal

abbrev pub invariant-loop-number : goal.invariant-loop-number
invariant-loop-number g l = HaveGone (take l.number-index l.order) l.fn.state l.state l.fn.lanes l.lanes
