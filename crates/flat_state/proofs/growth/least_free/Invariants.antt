use Rattle.std.specs.Prelude.{ℕ, ◌≡◌, ◌<◌, ◌≤◌, ◌++◌, true}
use Rattle.std.specs.List.{list_any}
use Rattle.flat_model.specs.vnode_files.Grow.{has_block}
use Rattle.flat_state.proofs.growth.least_free.Given as goal

-- each block so far is in an extent
abbrev pub invariant-loop-block : goal.invariant-loop-block
invariant-loop-block l = (b : ℕ) → 1 ≤ b → b < l.block → list_any (has_block b) (l.others ++ l.own) ≡ true
