use Rattle.std.specs.Prelude.{ℕ, ◌≡◌, ◌<◌, ◌≤◌, ◌-◌, map, true}
use Rattle.std.specs.List.{list_any}
use Rattle.vnode_files.specs.Grow.{has_block}
use Rattle.vnode_files.specs.Files.{extents_on}
use Rattle.vnode_files.proofs.growth.least_free.Given as goal

-- each block so far is in an extent
abbrev pub invariant-loop-block : goal.invariant-loop-block
invariant-loop-block l = record {
  first : 1 ≤ l.block;
  taken : (b : ℕ) → 1 ≤ b → b < l.block → list_any (has_block b) (extents_on l.disk (map (λ v. v.seen) l.vnodes)) ≡ true;
}

abbrev pub decreases-loop-block : goal.decreases-loop-block
decreases-loop-block l = l.blocks - l.block
