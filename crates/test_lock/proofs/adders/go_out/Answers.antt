use Rattle.std.proofs.Common.{sym, subst, None}
use Rattle.test_lock.specs.Tally.{MovesTally, stays}
use Rattle.test_lock.proofs.adders.go_out.Goals as goal

pub leave-requires-clause-moves : goal.leave-requires-clause-moves
leave-requires-clause-moves c =
    let was = c.requires.inside in
    (c.args.tally, was.1, subst (λ n. MovesTally c.args.seat.now.number c.args.tally n c.args.tally None) (sym was.2) (stays c.args.seat.now.number c.args.tally None))
