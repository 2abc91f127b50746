use Rattle.std.specs.Prelude.{◌≡◌, ◌≤◌, ◌^◌, map}
use Rattle.flat_model.specs.Space.{lowest_gap_from}
use Rattle.flat_state.specs.Cells.{flat_cell}
use Rattle.flat_state.proofs.cells.gap.Given as goal

-- the gap is the one from here on over the entries that are left
abbrev pub invariant-loop-page : goal.invariant-loop-page
invariant-loop-page l =
    (goal.iterator-loop-page).can_next l.page-iterator ×
    (goal.iterator-loop-page).is_finite l.page-iterator ×
    (l.low ≤ 2 ^ 32) ×
    (lowest_gap_from 1 l.count (map (λ e. (e.0, flat_cell e.1)) l.cells.entries) ≡ lowest_gap_from l.low l.count (map (λ e. (e.0, flat_cell e.1)) l.page-iterator))
