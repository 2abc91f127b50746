use Rattle.std.proofs.Common.{◌≤◌, ◌-◌, ℕ}
use Rattle.seg_vn.specs.vm_world.Segments.{Spaces}
use Rattle.seg_vn.specs.vm_world.Words.{memory}
use Rattle.seg_vn.specs.seg_ops.Rooms.{MakesRoom}
use Rattle.mmap_calls.specs.SyncRanges.{AreClean, IsAliveWith}
use Rattle.mmap_calls.proofs.syncs.clean_range.Given as goal

abbrev pub decreases-loop-page : goal.decreases-loop-page
decreases-loop-page g l = l.end - l.page

abbrev pub invariant-loop-page : goal.invariant-loop-page
invariant-loop-page g l = record {
  low : l.first ≤ l.page;
  clean : (spaces : Spaces) (p : ℕ) → IsAliveWith l.fn.world spaces p l.space.parts → AreClean (memory l.world spaces) p l.first l.page;
  makes : MakesRoom l.fn.world l.world;
}
