use Rattle.std.proofs.Common.{◌≡◌, ℕ, Option, None, ap, sym, subst, ◌∙◌}
use Rattle.test_lock.specs.Tally.{MovesTally}
use Rattle.test_lock.proofs.adders.add_seen.Goals as goal

pub leave-requires-clause-moves : goal.leave-requires-clause-moves
leave-requires-clause-moves g c =
    let e = c.enter-tally.ensures.inside.3 in
    let note : None ≡ c.enter-tally.new.seat.note = sym (ap (λ v. v.note) e ∙ c.requires.held) in
    let P : ℕ × Option ℕ → Type 0 = λ z. MovesTally z.0 c.enter-tally.result z.1 c.add-added.new.self None in
    (c.enter-tally.result, ap (λ v. v.state) e, subst P (λ i. (c.number.ensures i, note i)) (c.add-added.ensures.moves None))
