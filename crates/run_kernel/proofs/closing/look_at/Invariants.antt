use Rattle.std.specs.Prelude.{ℕ, ◌<◌}
use Rattle.volume_files.specs.vnode_files.Files.{vnode_at}
use Rattle.volume_files.specs.vnode_files.Vnode.{IsSoundVnode}
use Rattle.run_kernel.proofs.closing.look_at.Given as goal

abbrev pub invariant-loop-file : goal.invariant-loop-file
invariant-loop-file l = (k : ℕ) → k < l.file → IsSoundVnode (vnode_at l.files k)
