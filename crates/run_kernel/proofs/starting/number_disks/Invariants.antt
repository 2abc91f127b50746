use Rattle.std.proofs.Common.{◌≡◌, ◌≤◌, length, map}
use Rattle.std.specs.Prelude.{vec_capacity}
use Rattle.run_kernel.proofs.Starts.{with_number}
use Rattle.run_kernel.proofs.starting.number_disks.Given as goal

abbrev pub invariant-loop-disk : goal.invariant-loop-disk
invariant-loop-disk g l = record {
  made : l.numbered.items ≡ map with_number l.yielded;
  room : length l.fn.disks.items ≤ vec_capacity l.numbered;
}
