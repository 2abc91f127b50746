use Rattle.seg_ops.specs.vm_world.Serving.{ModifiesNone}
use Rattle.seg_ops.specs.vm_world.World.{world_seen}
use Rattle.seg_ops.specs.vm_world.Words.{KeepsEveryPage, OnlyHat}
use Rattle.seg_ops.specs.Writers.{WritersStay}
use Rattle.seg_vn.specs.Copied.{AreProtected}
use Rattle.seg_vn.proofs.dups.protect_places.Given as goal

abbrev pub invariant-loop-place : goal.invariant-loop-place
invariant-loop-place g l = record {
  none : AreProtected l.world.hat.places l.fn.world.maps l.fn.map l.fn.space l.fn.first l.place;
  stay : WritersStay l.fn.world.hat.places l.world.hat.places;
  rest : OnlyHat l.fn.world l.world;
  modified : ModifiesNone (world_seen l.fn.world) (world_seen l.world);
  keeps : KeepsEveryPage l.fn.world l.world;
}
