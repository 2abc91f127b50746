use Rattle.seg_ops.specs.Rooms.{MakesRoom, SameLists}
use Rattle.seg_ops.proofs.rooms.unused_victim.Given as goal

abbrev pub invariant-loop-distance : goal.invariant-loop-distance
invariant-loop-distance g l = record {
  lists : SameLists l.fn.world.store l.world.store;
  makes : MakesRoom l.fn.world l.world;
}
