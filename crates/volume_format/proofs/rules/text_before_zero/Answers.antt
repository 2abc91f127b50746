use Rattle.std.proofs.Common.{◌≡◌, ◌<◌, ◌≤◌, ℕ, List, length, get_or, take, eqb, true, false, not, sym, ap, arith, refl, ◌∙◌}
use Rattle.std.proofs.lemmas.List.{take_all}
use Rattle.std.proofs.lemmas.List.Sums.{prefix_len_is}
use Rattle.volume_format.specs.Layout.{text_before_zero}
use Rattle.volume_format.proofs.rules.text_before_zero.Goals as goal

text_before_zero-is : (field : List ℕ) (n : ℕ) → n ≤ length field → ((k : ℕ) → k < n → not (eqb (get_or field k 0) 0) ≡ true)
    → (n < length field → not (eqb (get_or field n 0) 0) ≡ false) → take n field ≡ text_before_zero field
text_before_zero-is field n within before here =
    ap (λ k. take k field) (sym (prefix_len_is (λ b. not (eqb b 0)) field n 0 within before here))

pub returns-then-b-eq0 : goal.returns-then-b-eq0
returns-then-b-eq0 c =
    text_before_zero-is c.args.field.now c.loop-i.i c.loop-i.invariant.0 c.loop-i.invariant.1
    (λ _. let h : get_or c.args.field.now c.loop-i.i 0 ≡ 0 = c.if-b-eq0.true in rw h refl)

pub returns : goal.returns
returns c =
    let e : c.loop-i.i ≡ length c.args.field.now = omega arith in
    sym (take_all c.loop-i.i c.args.field.now (omega arith))
    ∙ text_before_zero-is c.args.field.now c.loop-i.i c.loop-i.invariant.0 c.loop-i.invariant.1 (λ h. absurd (omega arith))
