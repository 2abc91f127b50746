use Rattle.std.proofs.Common.{◌≡◌, length}
use Rattle.vm_core.proofs.Tops.{TopsBelow}
use Rattle.vm_core.proofs.start.top_spaces.Given as goal

abbrev pub invariant-loop-place : goal.invariant-loop-place
invariant-loop-place l = record {
  processes : l.spaces.processes ≡ length l.parents;
  tops : TopsBelow l.parents l.place l.spaces.spaces;
}
