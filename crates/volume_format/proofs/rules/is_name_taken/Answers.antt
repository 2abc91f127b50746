use Rattle.std.proofs.Common.{◌≡◌, ℕ, true, false, sym, ◌∙◌}
use Rattle.volume_format.proofs.RangeLemmas.{any-rest-yes, any-rest-no, any-rest-end}
use Rattle.volume_format.specs.Layout.{are_same, name_of_file}
use Rattle.volume_format.proofs.rules.is_name_taken.Goals as goal

pub returns-then-are_same : goal.returns-then-are_same
returns-then-are_same c =
    let p = λ (k : ℕ). are_same (name_of_file c.args.block.now k) (name_of_file c.args.block.now c.args.i) in
    let here : p c.loop-k.k
    ≡ true = rw
    (← c.name_field-in-loop-k.ensures, ← c.name_field.ensures, ← c.text_before_zero.ensures, ← c.text_before_zero-name.ensures)
    (sym c.are_same.ensures ∙ c.if-are_same.true) in
    sym (c.loop-k.invariant ∙ any-rest-yes p c.loop-k.k c.args.i c.loop-k-test.true here)

pub loop-k-preserved : goal.loop-k-preserved
loop-k-preserved c =
    let p = λ (k : ℕ). are_same (name_of_file c.args.block.now k) (name_of_file c.args.block.now c.args.i) in
    let here : p c.loop-k.k
    ≡ false = rw
    (← c.name_field-in-loop-k.ensures, ← c.name_field.ensures, ← c.text_before_zero.ensures, ← c.text_before_zero-name.ensures)
    (sym c.are_same.ensures ∙ c.if-are_same.false) in
    c.loop-k.invariant ∙ any-rest-no p c.loop-k.k c.args.i c.loop-k-test.true here

pub returns : goal.returns
returns c =
    let p = λ (k : ℕ). are_same (name_of_file c.args.block.now k) (name_of_file c.args.block.now c.args.i) in
    sym (c.loop-k.invariant ∙ any-rest-end p c.loop-k.k c.args.i c.loop-k-test.false)
