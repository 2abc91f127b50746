use Rattle.std.proofs.Common.{ℕ, below_more, subst, arith}
use Rattle.std.proofs.lemmas.List.{get_or_default}
use Rattle.volume_files.specs.vnode_files.Files.{vnode_at}
use Rattle.volume_files.specs.vnode_files.Vnode.{IsSoundVnode, no_vnode}
use Rattle.run_kernel.proofs.closing.look_at.Goals as goal

pub loop-file-preserved : goal.loop-file-preserved
loop-file-preserved c = below_more (λ (k : ℕ). IsSoundVnode (vnode_at c.args.files.now k)) c.loop-file.file c.loop-file.invariant c.info.ensures.sound

pub returns-clause-sound : goal.returns-clause-sound
returns-clause-sound c = λ k d lt. subst IsSoundVnode (get_or_default c.args.files.now.files k no_vnode d lt) (c.loop-file.invariant k (omega (arith, lt)))
