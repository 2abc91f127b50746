use Rattle.std.proofs.Common.{rules}
use Rattle.test_threads.proofs.overlaps.wait_for_page.Goals as goal

pub invariant_of-trial : goal.invariant_of-trial
invariant_of-trial g c =
    let t = c.trial.invariant.0 in (record { seats = t.seats; first = search rules; second = search rules; clock = t.clock; free = t.free }, c.trial.invariant.1, c.trial.invariant.2, c.trial.invariant.3)
