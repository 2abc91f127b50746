use Rattle.std.proofs.Common.{◌≡◌, ◌≤◌, ◌<◌, ℕ, None}
use Rattle.seg_ops.specs.hat_layer.Pool.{translation_at}
use Rattle.seg_ops.specs.vm_world.MemoryFits.{MemoryFits}
use Rattle.seg_ops.specs.vm_world.Segments.{Spaces}
use Rattle.seg_ops.specs.vm_world.Serving.{ModifiesNone}
use Rattle.seg_ops.specs.vm_world.World.{world_seen}
use Rattle.seg_ops.specs.vm_world.Words.{KeepsPages}
use Rattle.seg_vn.proofs.segment.VnSeg.unmap.Given as goal

abbrev pub invariant-loop-page : goal.invariant-loop-page
invariant-loop-page g l = record {
  gone : (q : ℕ) → l.fn.first ≤ q → q < l.page → translation_at l.world.hat.places l.fn.space q ≡ None;
  none : (s q : ℕ) → translation_at l.fn.world.hat.places s q ≡ None → translation_at l.world.hat.places s q ≡ None;
  modified : ModifiesNone (world_seen l.fn.world) (world_seen l.world);
  rest : l.world ≡ record l.fn.world { store = l.world.store; hat = l.world.hat };
  keeps : (spaces : Spaces) → MemoryFits (record { world = world_seen l.fn.world; spaces = spaces }) → KeepsPages (world_seen l.fn.world) (world_seen l.world) spaces;
}
