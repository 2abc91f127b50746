use Rattle.std.proofs.Common.{◌≡◌, ◌≤◌, ◌<◌, ℕ}
use Rattle.seg_ops.specs.vm_world.Serving.{ModifiesNone}
use Rattle.seg_ops.specs.vm_world.World.{world_seen}
use Rattle.seg_ops.specs.vm_world.Words.{KeepsEveryPage, OnlyHat}
use Rattle.seg_ops.specs.Writers.{HasNoWriter, WritersStay}
use Rattle.seg_vn.proofs.segment.VnSeg.hold_writes.Given as goal

abbrev pub invariant-loop-page : goal.invariant-loop-page
invariant-loop-page g l = record {
  none : (q : ℕ) → l.fn.first ≤ q → q < l.page → HasNoWriter l.world.hat.places l.fn.space q;
  stay : WritersStay l.fn.world.hat.places l.world.hat.places;
  rest : OnlyHat l.fn.world l.world;
  modified : ModifiesNone (world_seen l.fn.world) (world_seen l.world);
  keeps : KeepsEveryPage l.fn.world l.world;
}
