use Rattle.std.proofs.Common.{◌≡◌, ◌≤◌, length, map}
use Rattle.std.specs.Prelude.{vec_len, vec_capacity}
use Rattle.block_device.specs.declared.numbered.NumberedDisk.{NumberedDisk}
use Rattle.volume_files.proofs.attaching.into_disks.Given as goal

abbrev pub invariant-loop-disk : goal.invariant-loop-disk
invariant-loop-disk g l = record {
  items : l.back.items ≡ map (λ (d : NumberedDisk _). d.disk) l.yielded;
  count : vec_len l.back ≡ length l.yielded;
  room : length l.fn.disks.items ≤ vec_capacity l.back;
}
