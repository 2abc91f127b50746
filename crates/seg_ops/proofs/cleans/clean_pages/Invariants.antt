use Rattle.std.proofs.Common.{◌≤◌, ◌<◌, ℕ}
use Rattle.vm_world.specs.Wants.{IsCleanPage}
use Rattle.vm_world.specs.World.{world_seen, file_name}
use Rattle.seg_ops.specs.Rooms.{MakesRoom}
use Rattle.seg_ops.proofs.cleans.clean_pages.Given as goal

abbrev pub invariant-loop-page : goal.invariant-loop-page
invariant-loop-page g l = record {
  clean : (page : ℕ) → l.fn.from ≤ page → page < l.page → IsCleanPage (world_seen l.world) (file_name l.fn.file page);
  makes : MakesRoom l.fn.world l.world;
}
