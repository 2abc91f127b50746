use Rattle.std.proofs.Common.{◌≡◌, ◌+◌, ◌-◌, ◌∙◌, ℕ, Bool, Some, None, suc, sym, ap, cond, arith}
use Rattle.flat_model.specs.vnode_files.Grow.{with_next_blocks}
use Rattle.flat_state.proofs.Growths.{goes-on, ends-none}
use Rattle.flat_state.proofs.growth.growth.Goals as goal

pub returns-then-not-branch : goal.returns-then-not-branch
returns-then-not-branch c =
    let left : c.missing-added-end.result - c.loop-added._added ≡ suc (c.missing-added-end.result - (c.loop-added._added + 1)) = omega (arith, c.loop-added-test.true) in
    let none = c.in_ok-add_block.ensures ∙ ap (λ (b : Bool). cond b (Some c.add_block.new.own.items) None) c.if-not-branch.true in
    sym (ends-none c.args.blocks c.args.others.now c.loop-added.grown.items (c.missing-added-end.result - c.loop-added._added) (c.missing-added-end.result - (c.loop-added._added + 1)) left none)
    ∙ c.loop-added.invariant ∙ ap (λ (k : ℕ). with_next_blocks c.args.blocks c.args.others.now k c.args.own.now) c.missing-added-end.ensures

pub loop-added-preserved : goal.loop-added-preserved
loop-added-preserved c =
    let left : c.missing-added-end.result - c.loop-added._added ≡ suc (c.missing-added-end.result - (c.loop-added._added + 1)) = omega (arith, c.loop-added-test.true) in
    let found = c.in_ok-add_block.ensures ∙ ap (λ (b : Bool). cond b (Some c.add_block.new.own.items) None) c.if-not-branch.false in
    sym (goes-on c.args.blocks c.args.others.now c.loop-added.grown.items (c.missing-added-end.result - c.loop-added._added) (c.missing-added-end.result - (c.loop-added._added + 1)) c.add_block.new.own.items left found)
    ∙ c.loop-added.invariant
