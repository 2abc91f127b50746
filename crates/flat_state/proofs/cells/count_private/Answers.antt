use Rattle.std.proofs.Common.{ℕ, ◌≡◌, ◌+◌, ◌≤◌, List, ◌∷◌, length, ap, ◌∙◌, arith}
use Rattle.std.specs.Prelude.{◌^◌, sum_by}
use Rattle.std.proofs.lemmas.List.Sums.{sum_by-cons}
use Rattle.flat_model.specs.Flat.{slots_for}
use Rattle.flat_state.specs.Cells.{flat_cell}
use Rattle.flat_state.proofs.cells.count_private.Goals as goal

count_next : {X : Type 0} (f : X → ℕ) (count n total : ℕ) (xs ys : List X) (x : X) → xs ≡ x ∷ ys → n ≡ f x → n ≤ 1 → count + length xs ≤ 2 ^ 63 → count + sum_by f xs ≡ total → (count + n + length ys ≤ 2 ^ 63) × (count + n + sum_by f ys ≡ total)
count_next f count n total xs ys x is here few fits all =
    let long = ap length is in
    let split = ap (sum_by f) is ∙ sum_by-cons f x ys in
    (omega arith, omega arith)

pub loop-cell-preserved : goal.loop-cell-preserved
loop-cell-preserved c =
    let next = count_next (λ x. slots_for (flat_cell x)) c.loop-cell.count c.slots_for-count.result _ c.loop-cell.cell-iterator c.next.new.self c.in-Some.cell.now c.in-Some.ensures.steps c.slots_for-count.ensures.slots c.slots_for-count.ensures.few c.loop-cell.invariant.2 c.loop-cell.invariant.3 in
    (tt, tt, next.0, next.1)
