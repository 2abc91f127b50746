use Rattle.std.proofs.Common.{◌≡◌, ◌≤◌, ◌⊎◌, ℕ}
use Rattle.fault_entry.specs.vm_world.World.{world_seen}
use Rattle.vm_core.specs.Raises.{IsPageFrom, Raises}
use Rattle.vm_core.proofs.raises.raise_pages.Given as goal

abbrev pub invariant-loop-page : goal.invariant-loop-page
invariant-loop-page g l = record {
  raised : Raises (world_seen l.world) (IsPageFrom l.file l.from l.page) l.entries l.fn.marks l.marks;
  low : l.from ≤ l.page;
  high : (l.page ≤ l.end) ⊎ (l.page ≡ l.from);
}
