use Rattle.std.proofs.Common.{ap, sym, subst, ◌∙◌}
use Rattle.test_lock.specs.Tally.{MovesTally, stays}
use Rattle.test_lock.proofs.adders.look.Goals as goal

pub leave-requires-clause-moves : goal.leave-requires-clause-moves
leave-requires-clause-moves g c =
    let e = c.enter-tally.ensures.inside.3 in (
      c.enter-tally.result,
      ap (λ v. v.state) e,
      subst (λ n. MovesTally c.enter-tally.new.seat.number c.enter-tally.result n c.enter-tally.result c.args.held)
          (sym (ap (λ v. v.note) e ∙ c.requires.held)) (stays c.enter-tally.new.seat.number c.enter-tally.result c.args.held),
    )
