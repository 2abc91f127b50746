use Rattle.seg_ops.specs.Rooms.{MakesRoom, SameLists}
use Rattle.seg_ops.proofs.rooms.forget_all_use.Given as goal

abbrev pub invariant-loop-frame : goal.invariant-loop-frame
invariant-loop-frame g l = record {
  lists : SameLists l.fn.world.store l.world.store;
  makes : MakesRoom l.fn.world l.world;
}
