use Rattle.std.proofs.Common.{◌≡◌}
use Rattle.seg_ops.specs.vm_world.Segments.{Spaces}
use Rattle.seg_ops.specs.vm_world.Serving.{ModifiesNone}
use Rattle.seg_ops.specs.vm_world.Words.{memory, Fits}
use Rattle.seg_ops.specs.vm_world.World.{world_seen}
use Rattle.seg_map.specs.VoidedPages.{VoidsUpTo}
use Rattle.seg_map.proofs.shorter.void_pages.Given as goal

abbrev pub invariant-loop-page : goal.invariant-loop-page
invariant-loop-page g l = record {
  voids : (spaces : Spaces) → Fits l.fn.world spaces → VoidsUpTo (memory l.fn.world spaces) (memory l.world spaces) l.fn.file l.fn.end l.page;
  rest : l.world ≡ record l.fn.world { store = l.world.store; hat = l.world.hat; files = l.world.files };
  modified : ModifiesNone (world_seen l.fn.world) (world_seen l.world);
}
