use Rattle.std.proofs.Common.{ap, refl}
use Rattle.seg_ops.specs.vm_world.State.{KernelState, KeptPlan}
use Rattle.test_acts.proofs.TrialLemmas.{trial-at, trial-sent}
use Rattle.test_acts.proofs.trial.send.Goals as goal

pub begin-flight-requires-clause-fits : goal.begin-flight-requires-clause-fits
begin-flight-requires-clause-fits c = trial-at c.args.state.now c.args.trips.now.items c.args.seat c.requires.trial c.requires.idle

pub returns : goal.returns
returns c =
    let kept : KeptPlan = record { seat = c.args.seat; plan = c.args.plan; of = c.args.of } in
    trial-sent c.args.state.now c.begin-flight.new.self c.args.trips.now.items c.args.seat kept c.begin-flight.result c.requires.trial c.requires.seat c.requires.idle
    (c.begin-flight.ensures.event kept (record { is = c.requires.kept; mine = refl; same = refl })) (ap (λ (s : KernelState). s.history) c.begin-flight.ensures.rest) c.begin-flight.ensures.flight.begins.outcome c.requires.served
