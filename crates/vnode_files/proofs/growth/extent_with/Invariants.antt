use Rattle.std.specs.Prelude.{◌≡◌, map, take, None}
use Rattle.std.specs.List.{find}
use Rattle.vnode_files.specs.Grow.{has_block}
use Rattle.vnode_files.specs.Files.{extents_on}
use Rattle.vnode_files.proofs.growth.extent_with.Given as goal

-- no file so far has the block
abbrev pub invariant-loop-vnode : goal.invariant-loop-vnode
invariant-loop-vnode l = find (has_block l.block) (extents_on l.disk (take l.vnode-index (map (λ v. v.seen) l.vnodes))) ≡ None
