use Rattle.std.proofs.Common.{◌-◌, ℕ, List, ◌++◌, ◌∙◌, ap, take, replicate}
use Rattle.flat_model.specs.Words.{zero_page}
use Rattle.flat_state.proofs.zeros.zero_page.Goals as goal

pub returns : goal.returns
unfolding zero_page
returns c =
    c.in_ok-resize.ensures.items ∙ ap (λ (xs : List ℕ). take 4096 xs ++ replicate (4096 - c.new-page.result.len) 0) c.new-page.ensures.items
    ∙ ap (λ (n : ℕ). replicate (4096 - n) 0) c.new-page.ensures.len
