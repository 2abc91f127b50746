use Rattle.std.specs.Prelude.{◌<◌, ◌≤◌, is_some}
use Rattle.std.proofs.Common.{ap, ◌∙◌, sym, arith, inl, inr}
use Rattle.std.proofs.lemmas.Bool.{cases_lt}
use Rattle.vnode_files.specs.Grow.{has_block, extent_end}
use Rattle.vnode_files.specs.Files.{extents_on}
use Rattle.vnode_files.proofs.FindLemmas.{find-passes, any-found, any-find}
use Rattle.vnode_files.proofs.BlockLemmas.{has_block-bounds, has_block-between}
use Rattle.vnode_files.proofs.ListLemmas.{least_free-is, least_free-none}
use Rattle.vnode_files.proofs.SeenLemmas.{seen_of}
use Rattle.vnode_files.proofs.growth.least_free.Goals as goal
use Rattle.vnode_files.proofs.growth.least_free.Goals.{In-Some}

-- the extent that has the block
bounds : (c : In-Some) → (c.in-Some.extent.start ≤ c.loop-block.block) × (c.loop-block.block < extent_end c.in-Some.extent)
bounds c =
    has_block-bounds c.loop-block.block c.in-Some.extent
    (find-passes (has_block c.loop-block.block) (extents_on c.args.disk (seen_of c.args.vnodes.now)) c.in-Some.extent (sym c.extent_with.ensures ∙ c.in-Some.is))

pub loop-block-smaller : goal.loop-block-smaller
loop-block-smaller c = let b = bounds (goal.at.loop-block-smaller c).In-Some in omega (arith, b.0, b.1, c.loop-block-test.true)

pub loop-block-preserved : goal.loop-block-preserved
loop-block-preserved c =
    let b = bounds (goal.at.loop-block-preserved c).In-Some in
    let used = extents_on c.args.disk (seen_of c.args.vnodes.now) in
    record {
      first = omega (arith, b.1, c.loop-block.invariant.first);
      taken = λ n low high. elim (cases_lt n c.loop-block.block) [
        | inl before ↦ c.loop-block.invariant.taken n low before
        | inr after ↦
            any-found (has_block c.loop-block.block) (has_block n) used c.in-Some.extent (sym c.extent_with.ensures ∙ c.in-Some.is)
            (has_block-between n c.in-Some.extent (omega (arith, b.0)) high)
      ];
    }

pub returns-in-None : goal.returns-in-None
returns-in-None c =
    let used = extents_on c.args.disk (seen_of c.args.vnodes.now) in
    sym (least_free-is c.args.blocks used c.loop-block.block c.loop-block.invariant.first c.loop-block-test.true c.loop-block.invariant.taken
    (any-find (has_block c.loop-block.block) used ∙ ap is_some (sym c.extent_with.ensures ∙ c.in-None.is)))

pub returns : goal.returns
returns c =
    sym (least_free-none c.args.blocks (extents_on c.args.disk (seen_of c.args.vnodes.now)) c.loop-block.block c.loop-block-test.false c.loop-block.invariant.taken)
