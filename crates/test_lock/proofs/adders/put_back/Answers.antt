use Rattle.std.proofs.Common.{ap, sym, subst, ◌∙◌}
use Rattle.test_lock.specs.Tally.{MovesTally}
use Rattle.test_lock.proofs.adders.put_back.Goals as goal

pub leave-requires-clause-moves : goal.leave-requires-clause-moves
leave-requires-clause-moves g c =
    let e = c.enter-tally.ensures.inside.3 in (
      c.enter-tally.result,
      ap (λ v. v.state) e,
      subst (λ n. MovesTally c.enter-tally.new.seat.number c.enter-tally.result n c.put_back-held.new.self c.put_back-held.result)
          (sym (ap (λ v. v.note) e ∙ c.requires.held)) (c.put_back-held.ensures.moves c.enter-tally.new.seat.number),
    )
