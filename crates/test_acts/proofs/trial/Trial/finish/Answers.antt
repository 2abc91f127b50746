use Rattle.std.proofs.Common.{◌≡◌, ℕ, List, Option, None, subst}
use Rattle.std.specs.Prelude.{slice_index_or}
use Rattle.test_acts.specs.Trials.{TripSeen}
use Rattle.test_acts.proofs.TrialLemmas.{trial-still}
use Rattle.test_acts.proofs.trial.Trial.finish.Goals as goal

pub finish-requires : goal.finish-requires
finish-requires c =
    trial-still c.self.inside.state c.self.inside.trips.items c.self.invariant
    (subst (λ (trips : List (Option TripSeen)). (seat : ℕ) → slice_index_or trips seat None ≡ None) c.as_slice.ensures.value (c.are_idle.ensures c.if-not-are_idle.false))
