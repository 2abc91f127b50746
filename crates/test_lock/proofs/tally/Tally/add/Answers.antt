use Rattle.std.proofs.Common.{rules, ◌≡◌, ◌+◌, [], ◌∷◌, refl, arith}
use Rattle.test_lock.specs.Tally.{total}
use Rattle.test_lock.proofs.Tallies.{all_one}
use Rattle.test_lock.proofs.tally.Tally.add.Goals as goal

pub returns-clause-moves : goal.returns-clause-moves
returns-clause-moves c n =
    let sum : c.in-Some.sum ≡ c.args.self.now.sum + c.args.number = search rules in
    let one : total ((c.args.seat, c.args.number) ∷ []) ≡ 0 + c.args.number = refl in
    ((c.args.seat, c.args.number) ∷ [], search rules, all_one (λ e. e.0 ≡ c.args.seat) (c.args.seat, c.args.number) refl, omega (arith, sum, one))
