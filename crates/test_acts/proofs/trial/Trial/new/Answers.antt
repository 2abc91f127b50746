use Rattle.std.proofs.Common.{sym, subst}
use Rattle.test_acts.specs.Trials.{IsTrialState}
use Rattle.test_acts.proofs.trial.Trial.new.Goals as goal

pub invariant_of-result : goal.invariant_of-result
invariant_of-result c = subst (λ trips. IsTrialState c.args.state trips) (sym c.in_ok-trips.ensures) c.requires
