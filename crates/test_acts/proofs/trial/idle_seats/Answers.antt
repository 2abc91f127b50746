use Rattle.std.proofs.Common.{◌∙◌, ◌++◌, ◌∷◌, [], List, Option, None, ap}
use Rattle.std.proofs.lemmas.List.{replicate-append-replicate}
use Rattle.test_acts.specs.Trials.{TripSeen}
use Rattle.test_acts.proofs.trial.idle_seats.Goals as goal

pub loop-seat-preserved : goal.loop-seat-preserved
loop-seat-preserved c = c.in_ok-push.ensures.items ∙ ap (λ (trips : List (Option TripSeen)). trips ++ None ∷ []) c.loop-seat.invariant ∙ replicate-append-replicate c.loop-seat._seat 1 None
