use Rattle.std.proofs.Common.{◌≡◌, ◌≤◌, ◌-◌, ℕ}
use Rattle.std.specs.Prelude.{option_map}
use Rattle.seg_vn.specs.addr_space.Space.{part_at}
use Rattle.seg_vn.specs.vm_world.ProtectSteps.{with_range_prot}
use Rattle.seg_vn.specs.vm_world.Serving.{ModifiesNone}
use Rattle.seg_vn.specs.vm_world.Words.{OnlyStoreAndHat}
use Rattle.seg_vn.specs.vm_world.World.{world_seen}
use Rattle.seg_vn.specs.Clears.{SpaceBecomes, StartsAt}
use Rattle.mmap_calls.proofs.RangeProtections.{bounds}
use Rattle.mmap_calls.proofs.protects.set_range.Given as goal

abbrev pub decreases-loop-page : goal.decreases-loop-page
decreases-loop-page g l = l.end - l.page

abbrev pub invariant-loop-page : goal.invariant-loop-page
invariant-loop-page g l = record {
  low : l.first ≤ l.page;
  high : l.page ≤ l.end;
  starts : StartsAt l.fn.space.parts l.page;
  same : (q : ℕ) → option_map bounds (part_at l.space.parts q) ≡ option_map bounds (part_at l.fn.space.parts q);
  changes : SpaceBecomes l.fn.world l.world l.process l.fn.space.parts l.space.parts (λ F. with_range_prot F l.process l.first (l.page - l.first) l.prot);
  rest : OnlyStoreAndHat l.fn.world l.world;
  modified : ModifiesNone (world_seen l.fn.world) (world_seen l.world);
}
