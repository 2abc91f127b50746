use Rattle.std.specs.Prelude.{◌≡◌, map, replicate}
use Rattle.flat_model.specs.Words.{zero_page}
use Rattle.flat_state.proofs.zeros.zero_pages.Given as goal

-- the pages so far are zeros
abbrev pub invariant-loop-i : goal.invariant-loop-i
invariant-loop-i l = map (λ p. p.items) l.pages.items ≡ replicate l._i zero_page
