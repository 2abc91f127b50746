use Rattle.std.specs.Prelude.{map}
use Rattle.vnode_files.specs.Files.{NoneBefore}
use Rattle.vnode_files.proofs.files.Files.number.Given as goal

-- no file so far has the name
abbrev pub invariant-loop-number : goal.invariant-loop-number
invariant-loop-number l = NoneBefore (map (λ v. v.seen) l.vnode-items) l.name l.number
