use Rattle.std.specs.Prelude.{ℕ, ◌≡◌, ◌<◌, false, slice_index_or}
use Rattle.vnode_files.specs.Grow.{has_block}
use Rattle.vnode_files.proofs.vnode.Vnode.extent_with.Given as goal

-- no extent so far has the block
abbrev pub invariant-loop-extent : goal.invariant-loop-extent
invariant-loop-extent l =
    (k : ℕ) → k < l.extent-index → has_block l.block (slice_index_or l.extent-items k (record { start = 0; pages = 0 })) ≡ false
