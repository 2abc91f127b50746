use Rattle.core_arena.proofs.PageLemmas.{None, is_some, arith, sym, ap, ◌∙◌, none-away, all-there}
use Rattle.std.proofs.lemmas.List.{get_or_default}
use Rattle.core_arena.proofs.arena.are_home.Goals as goal

pub returns-then-is_none : goal.returns-then-is_none
returns-then-is_none c =
    let pages = c.args.pages.now in
    sym (none-away pages c.loop-page.page-index c.loop-page-test.true
    (ap is_some (get_or_default pages c.loop-page.page-index None c.page-item.result c.loop-page-test.true ∙ sym c.page-item.is) ∙ c.if-is_none.ensures))

pub returns : goal.returns
returns c = sym (ap is_some (all-there c.args.pages.now (λ i lt. c.loop-page.invariant i (omega (arith, lt, c.loop-page-test.false)))))
