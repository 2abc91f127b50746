use Rattle.std.proofs.Common.{arith}
use Rattle.test_files.proofs.LaneLemmas.{opening-may}
use Rattle.test_files.proofs.lanes.may_make.Goals as goal

pub returns : goal.returns
returns c _ = record {
  low = omega arith;
  made = c.are_lane_calls.ensures.0 c.if-not-are_lane_calls.false;
  may = opening-may c.args.state.now c.args.seat c.room.result c.args.calls.now c.requires (c.is_alive.ensures.0 c.if-not-is_alive.false) c.room.ensures (omega arith);
}
