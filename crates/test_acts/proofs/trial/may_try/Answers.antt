use Rattle.std.proofs.Common.{arith}
use Rattle.test_acts.proofs.trial.may_try.Goals as goal

pub returns : goal.returns
returns c bears = record {
  low = omega arith;
  within = (c.is_idle.ensures c.if-not-is_idle.false).0;
  idle = (c.is_idle.ensures c.if-not-is_idle.false).1;
  formed = c.is_well_formed.ensures.0 c.if-not-is_well_formed.false;
  alive = c.is_alive.ensures.0 c.if-not-is_alive.false;
  room = omega (arith, c.room.ensures, c.if-room-eq0.false);
  bears = c.can_bear.ensures bears;
}
