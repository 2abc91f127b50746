use Rattle.std.specs.Prelude.{◌≡◌, ◌<◌, map, take, length}
use Rattle.vnode_files.specs.Files.{extents_on}
use Rattle.vnode_files.proofs.growth.is_full.Given as goal

-- the extents of the files so far, and they are too few
abbrev pub invariant-loop-vnode : goal.invariant-loop-vnode
invariant-loop-vnode l = record {
  count : l.count ≡ length (extents_on l.disk (take l.vnode-index (map (λ v. v.seen) l.vnodes)));
  few : l.count < 252;
}
