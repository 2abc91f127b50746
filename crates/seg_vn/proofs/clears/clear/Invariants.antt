use Rattle.std.proofs.Common.{◌≡◌, ◌≤◌, ◌-◌, ℕ, None, cond}
use Rattle.std.specs.Prelude.{IsSome}
use Rattle.std.specs.FinMap as finite
use Rattle.seg_ops.specs.addr_space.Space.{piece_at}
use Rattle.seg_ops.specs.flat_model.Mapping.{without_pages}
use Rattle.seg_ops.specs.flat_model.Space.{is_in_range}
use Rattle.seg_ops.specs.vm_world.Segments.{Spaces}
use Rattle.seg_ops.specs.vm_world.World.{world_seen}
use Rattle.seg_ops.specs.vm_world.ZeroObjects.{free_number}
use Rattle.seg_vn.specs.Clears.{ChangesSpace, GivesBack, SpaceFits}
use Rattle.seg_vn.proofs.clears.clear.Given as goal

abbrev pub decreases-loop-first : goal.decreases-loop-first
decreases-loop-first g l = l.top

abbrev pub invariant-loop-first : goal.invariant-loop-first
invariant-loop-first g l = record {
  low : l.fn.from ≤ l.top;
  high : l.top ≤ l.fn.end;
  pages : (q : ℕ) → piece_at l.space.parts q ≡ cond (is_in_range l.top (l.fn.end - l.top) q) None (piece_at l.fn.space.parts q);
  changes : (spaces : Spaces) → SpaceFits (world_seen l.fn.world) l.fn.world.zeros spaces l.fn.process l.fn.space.parts → ChangesSpace l.fn.process (record { world = world_seen l.fn.world; spaces = spaces })
      (record { world = world_seen l.world; spaces = finite.insert spaces l.fn.process l.space.parts }) l.world.zeros (λ F. without_pages F l.fn.process l.top (l.fn.end - l.top));
  gives : GivesBack (world_seen l.fn.world) (world_seen l.world);
  objects : IsSome (free_number l.fn.world.zeros) → IsSome (free_number l.world.zeros);
  spare : l.fn.space.spare ≤ l.space.spare;
  rest : l.world ≡ record l.fn.world { store = l.world.store; anon = l.world.anon; maps = l.world.maps; hat = l.world.hat; zeros = l.world.zeros };
}
