use Rattle.std.proofs.Common.{ℕ, ◌<◌}
use Rattle.fault_entry.specs.vnode_files.Files.{vnode_at}
use Rattle.fault_entry.specs.vnode_files.Vnode.{IsSoundVnode}
use Rattle.vm_core.proofs.start.check_files.Given as goal

abbrev pub invariant-loop-file : goal.invariant-loop-file
invariant-loop-file l = record {
  sound : (f : ℕ) → f < l.file → IsSoundVnode (vnode_at l.files f);
}
