use Rattle.std.proofs.Common.{◌≡◌, ◌<◌}
use Rattle.seg_ops.specs.vm_world.MemoryFits.{MemoryFits}
use Rattle.seg_ops.specs.vm_world.Segments.{Spaces}
use Rattle.seg_ops.specs.vm_world.World.{world_seen}
use Rattle.kernel_close.specs.Closing.{PushesPages, StoresPages, GoOrStay, no_page}
use Rattle.kernel_close.proofs.closing.push_file.Given as goal

abbrev pub invariant-loop-page : goal.invariant-loop-page
invariant-loop-page g l = record {
  pushes : (spaces : Spaces) → MemoryFits (record { world = world_seen l.fn.world; spaces = spaces }) → PushesPages (world_seen l.fn.world) (world_seen l.world) spaces;
  stores : StoresPages (world_seen l.fn.world) (world_seen l.world) (λ n. (n.object ≡ l.file) × (n.page < l.page));
  goes : GoOrStay (world_seen l.fn.world) (world_seen l.world) no_page;
}
