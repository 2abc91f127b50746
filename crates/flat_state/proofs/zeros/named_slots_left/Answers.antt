use Rattle.std.proofs.Common.{◌≡◌, ◌∙◌, rules, ap, sym, length, ℕ, Bool, cond, List}
use Rattle.std.specs.Prelude.{sum_by}
use Rattle.flat_model.specs.Words.{Page}
use Rattle.flat_state.specs.Mapped.{slots_left}
use Rattle.flat_state.proofs.Slots.{left_all, left_nothing, named_size, named_sum}
use Rattle.flat_state.proofs.zeros.named_slots_left.Goals as goal

pub returns-in_err-left : goal.returns-in_err-left
returns-in_err-left c =
    let spaces = c.args.spaces.now in
    let pages = c.in-Some.pages.now in
    let x : ℕ × List Page = (c.in-Some.zero.now, pages) in
    let named : named_size spaces x ≡ length pages = ap (λ (b : Bool). cond b (length pages) 0) (sym c.names_zero.ensures ∙ c.if-names_zero.true) in
    let size : length pages ≡ c.len.result = search rules in
    let none = ap (slots_left c.loop-zero.left) (named ∙ size) ∙ sym c.slots_left.ensures ∙ c.in_err-left.was in
    c.from_residual.ensures ∙ left_nothing (named_size spaces) c.loop-zero.left c.loop-zero.zero-iterator c.next.new.self x _ c.in-Some.ensures.steps none c.loop-zero.invariant.2
    ∙ ap (slots_left c.args.slots) (named_sum spaces c.args.zeros.now.entries c.iter-zero-items.ensures.ordered)

pub returns : goal.returns
returns c =
    let spaces = c.args.spaces.now in
    left_all c.loop-zero.left ∙ ap (λ es. slots_left c.loop-zero.left (sum_by (named_size spaces) es)) (sym c.in-None.ensures.steps.0)
    ∙ c.loop-zero.invariant.2 ∙ ap (slots_left c.args.slots) (named_sum spaces c.args.zeros.now.entries c.iter-zero-items.ensures.ordered)
