use Rattle.std.proofs.Common.{arith}
use Rattle.bench_kernel.proofs.machine.may_make.Goals as goal

pub returns : goal.returns
returns c may = record {
  formed = c.is_well_formed.ensures.0 c.if-not-is_well_formed.false;
  alive = c.is_alive.ensures.0 c.if-not-is_alive.false;
  room = omega (arith, c.room.ensures, c.if-room-eq0.false);
}
