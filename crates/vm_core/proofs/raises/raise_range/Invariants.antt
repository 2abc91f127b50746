use Rattle.std.proofs.Common.{◌≡◌, ◌≤◌, ◌-◌, ◌⊎◌, ℕ}
use Rattle.mmap_calls.specs.SyncRanges.{IsAliveWith}
use Rattle.fault_entry.specs.vm_world.Segments.{Spaces}
use Rattle.fault_entry.specs.vm_world.Words.{memory}
use Rattle.fault_entry.specs.vm_world.World.{world_seen}
use Rattle.vm_core.specs.Raises.{IsSharedIn, Raises}
use Rattle.vm_core.proofs.raises.raise_range.Given as goal

abbrev pub invariant-loop-page : goal.invariant-loop-page
invariant-loop-page g l = record {
  raises : (spaces : Spaces) (p : ℕ) → IsAliveWith l.world spaces p l.space.parts → Raises (world_seen l.world) (IsSharedIn (memory l.world spaces) p l.first l.page) l.entries l.fn.marks l.marks;
  low : l.first ≤ l.page;
  high : (l.page ≤ l.end) ⊎ (l.page ≡ l.first);
}

abbrev pub decreases-loop-page : goal.decreases-loop-page
decreases-loop-page g l = l.end - l.page
