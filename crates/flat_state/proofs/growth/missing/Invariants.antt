use Rattle.std.specs.Prelude.{◌≡◌, ◌-◌, take}
use Rattle.flat_model.specs.vnode_files.Grow.{page_count}
use Rattle.flat_state.proofs.growth.missing.Given as goal

-- so many pages less those of the extents so far
abbrev pub invariant-loop-extent : goal.invariant-loop-extent
invariant-loop-extent l = l.left ≡ l.pages - page_count (take l.extent-index l.extents)
