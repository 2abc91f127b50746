use Rattle.std.proofs.Common.{◌≡◌, length, take}
use Rattle.std.specs.Prelude.{sum_by}
use Rattle.volume_files.specs.vm_script.Counts.{entry_count}
use Rattle.run_kernel.proofs.EntryRooms.{HaveRooms}
use Rattle.run_kernel.proofs.entry_rooms.entry_rooms.Given as goal

abbrev pub invariant-loop-line : goal.invariant-loop-line
invariant-loop-line l = record {
  count : length l.rooms.items ≡ length l.fn.plan.parents;
  rooms : HaveRooms (take l.line-index l.lines) l.rooms.items;
  total : sum_by (λ n. n) l.rooms.items ≡ entry_count (take l.line-index l.lines);
}
