use Rattle.std.proofs.Common.{◌≡◌, Option, None}
use Rattle.std.specs.Prelude.{replicate}
use Rattle.test_acts.specs.Trials.{TripSeen}
use Rattle.test_acts.proofs.trial.idle_seats.Given as goal

abbrev pub invariant-loop-seat : goal.invariant-loop-seat
invariant-loop-seat l = l.trips.items ≡ replicate l._seat None
