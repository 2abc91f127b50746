use Rattle.std.specs.Prelude.{◌-◌}
use Rattle.vnode_files.specs.Grow.{page_count}
use Rattle.vnode_files.specs.Step.{own_extents}
use Rattle.vnode_files.proofs.GrowLemmas.{IsGrowing}
use Rattle.vnode_files.proofs.files.Files.grow.Given as goal

-- the file has grown by some blocks, from which the others follow, and can be brought back
abbrev pub invariant-loop-before : goal.invariant-loop-before
invariant-loop-before l = IsGrowing l.initial.self l.self l.file l.pages l.before

abbrev pub decreases-loop-before : goal.decreases-loop-before
decreases-loop-before l = l.pages - page_count (own_extents l.self l.file)
