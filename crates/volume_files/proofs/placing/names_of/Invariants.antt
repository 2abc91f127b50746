use Rattle.std.specs.Prelude.{ℕ, ◌≡◌, ◌<◌, map, take}
use Rattle.volume_format.specs.vnode_files.Files.{vnode_at}
use Rattle.volume_format.specs.vnode_files.Vnode.{VnodeSeen, IsSoundVnode}
use Rattle.volume_files.proofs.placing.names_of.Given as goal

-- the names of the files so far, each of which is sound
abbrev pub invariant-loop-file : goal.invariant-loop-file
invariant-loop-file l = record {
  names : l.names.items ≡ map (λ (v : VnodeSeen). v.info.name) (take l.file l.files.files);
  sound : (k : ℕ) → k < l.file → IsSoundVnode (vnode_at l.files k);
}
