use Rattle.std.proofs.Common.{◌≡◌, ◌≤◌, ◌*◌, length}
use Rattle.std.specs.Prelude.{All, vec_capacity}
use Rattle.std.specs.List.{flat_map}
use Rattle.volume_files.specs.volume_disks.Singles.{single_seen}
use Rattle.run_outcome.specs.MemberRooms.{IsSeenByParts, volume_parts, numbered}
use Rattle.run_outcome.specs.Members.{both_disks}
use Rattle.run_outcome.proofs.members.put_volumes.Given as goal

abbrev pub invariant-loop-volume : goal.invariant-loop-volume
invariant-loop-volume g l = record {
  items : l.members.items ≡ numbered l.numbers (flat_map (λ v. both_disks (volume_parts v)) l.yielded);
  seen : All (IsSeenByParts (single_seen g.D.Disk.seen)) l.yielded;
  most : length l.members.items ≤ 2 * length l.yielded;
  room : vec_capacity l.members ≡ vec_capacity l.fn.members;
}
