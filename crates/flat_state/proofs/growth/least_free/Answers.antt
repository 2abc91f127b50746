use Rattle.std.proofs.Common.{◌∙◌, sym, arith, ◌++◌}
use Rattle.flat_model.proofs.vnode_files.ListLemmas.{least_free-none}
use Rattle.flat_state.proofs.Growths.{least-found}
use Rattle.flat_state.proofs.growth.least_free.Goals as goal

pub returns-then-is_free : goal.returns-then-is_free
returns-then-is_free c =
    least-found c.args.blocks (c.args.others.now ++ c.args.own.now) c.loop-block.block (omega (arith, c.loop-block.auto.block)) (omega (arith, c.loop-block-test.true, c.loop-block.auto.block-end))
    c.loop-block.invariant (sym c.is_free.ensures ∙ c.if-is_free.true)

pub returns : goal.returns
returns c = sym (least_free-none c.args.blocks (c.args.others.now ++ c.args.own.now) c.loop-block.block (omega (arith, c.loop-block-test.false, c.loop-block.auto.block-end)) c.loop-block.invariant)
