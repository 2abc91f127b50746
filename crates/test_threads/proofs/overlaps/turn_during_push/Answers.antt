use Rattle.std.proofs.Common.{rules}
use Rattle.test_threads.proofs.overlaps.turn_during_push.Goals as goal

pub invariant_of-trial : goal.invariant_of-trial
invariant_of-trial g c =
    let t = c.trial.invariant.0 in (
      record { seats = t.seats; first = search rules; second = t.second; clock = (search rules, search rules); free = search rules },
      c.trial.invariant.1,
      c.trial.invariant.2,
      c.trial.invariant.3,
    )
