use Rattle.std.proofs.Common.{◌≡◌, ◌+◌, length}
use Rattle.vm_script.specs.FileNames.{place_from}
use Rattle.vm_script.proofs.file_names.file_number.Given as goal

abbrev pub invariant-loop-left : goal.invariant-loop-left
invariant-loop-left l = record {
  so_far : place_from l.place l.left l.name l.old ≡ place_from 0 l.names l.name l.old;
  count : l.place + length l.left ≡ length l.names;
}

abbrev pub decreases-loop-left : goal.decreases-loop-left
decreases-loop-left l = length l.left
