use Rattle.std.specs.Prelude.{◌≡◌, ◌-◌}
use Rattle.flat_model.specs.vnode_files.Grow.{with_next_blocks}
use Rattle.flat_state.proofs.growth.growth.Given as goal

-- what is still to be added to the extents so far is the whole growth
abbrev pub invariant-loop-added : goal.invariant-loop-added
invariant-loop-added l = with_next_blocks l.blocks l.others (l._added-end - l._added) l.grown.items ≡ with_next_blocks l.blocks l.others l._added-end l.own
