use Rattle.std.proofs.Common.{ℕ, List, ◌++◌, ◌∙◌, ap, drop, replicate, sym, arith, rules}
use Rattle.std.proofs.lemmas.List.{length-take-le}
use Rattle.page_store.proofs.frames.clear_front.Goals as goal

pub slice_bounds-fill-end-2 : goal.slice_bounds-fill-end-2
slice_bounds-fill-end-2 c = sym (length-take-le 2048 c.args.page.now (search (rules, arith, c.requires)))

pub returns-clause-front : goal.returns-clause-front
returns-clause-front c =
    ap (λ (front : List ℕ). front ++ drop 2048 c.args.page.now)
    (c.fill.ensures.after (λ y e. e) ∙ ap (λ (n : ℕ). replicate n 0) (length-take-le 2048 c.args.page.now (search (rules, arith, c.requires))))
