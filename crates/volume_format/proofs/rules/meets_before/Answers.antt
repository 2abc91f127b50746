use Rattle.std.proofs.Common.{◌≡◌, ℕ, true, false, sym, ap, ◌∙◌}
use Rattle.volume_format.proofs.RangeLemmas.{any-rest-yes, any-rest-no, any-rest-end}
use Rattle.vnode_files.specs.declared.extent.Extent.{Extent}
use Rattle.volume_format.specs.Layout.{table_extent}
use Rattle.volume_format.specs.Rules.{do_meet}
use Rattle.volume_format.proofs.rules.meets_before.Goals as goal

pub returns-then-do_meet : goal.returns-then-do_meet
returns-then-do_meet c =
    let p = λ (k : ℕ). do_meet (table_extent c.args.block.now k) (table_extent c.args.block.now c.args.j) in
    let met : p c.loop-k.k ≡ true =
    ap (λ (e : Extent). do_meet e (table_extent c.args.block.now c.args.j)) (sym c.table_extent.ensures)
    ∙ ap (λ (e : Extent). do_meet c.table_extent.result e) (sym c.table_extent-extent.ensures)
    ∙ sym c.do_meet.ensures ∙ c.if-do_meet.true in
    sym (c.loop-k.invariant ∙ any-rest-yes p c.loop-k.k c.args.j c.loop-k-test.true met)

pub loop-k-preserved : goal.loop-k-preserved
loop-k-preserved c =
    let p = λ (k : ℕ). do_meet (table_extent c.args.block.now k) (table_extent c.args.block.now c.args.j) in
    let met : p c.loop-k.k ≡ false =
    ap (λ (e : Extent). do_meet e (table_extent c.args.block.now c.args.j)) (sym c.table_extent.ensures)
    ∙ ap (λ (e : Extent). do_meet c.table_extent.result e) (sym c.table_extent-extent.ensures)
    ∙ sym c.do_meet.ensures ∙ c.if-do_meet.false in
    c.loop-k.invariant ∙ any-rest-no p c.loop-k.k c.args.j c.loop-k-test.true met

pub returns : goal.returns
returns c =
    let p = λ (k : ℕ). do_meet (table_extent c.args.block.now k) (table_extent c.args.block.now c.args.j) in
    sym (c.loop-k.invariant ∙ any-rest-end p c.loop-k.k c.args.j c.loop-k-test.false)
