use Rattle.std.proofs.Common.{ap, arith}
use Rattle.seg_ops.specs.vm_world.State.{KernelState}
use Rattle.test_acts.proofs.TrialLemmas.{trial-at, trial-same}
use Rattle.test_acts.proofs.trial.Trial.turn.Goals as goal

pub clock-requires : goal.clock-requires
clock-requires c =
    let low = (c.is_idle.ensures c.if-not-is_idle.false).0 in
    let seats = c.self.invariant.seated in
    record { fits = trial-at c.self.inside.state c.self.inside.trips.items c.args.seat c.self.invariant (c.is_idle.ensures c.if-not-is_idle.false).1; seat = omega (arith, low, seats) }

pub send-requires-clause-trial : goal.send-requires-clause-trial
send-requires-clause-trial c =
    trial-same c.self.inside.state c.clock.new.self c.self.inside.trips.items c.args.seat c.self.invariant (c.is_idle.ensures c.if-not-is_idle.false).1 c.clock.ensures.event (ap (λ (s : KernelState). s.history) c.clock.ensures.rest)

pub invariant_of-self-in-None : goal.invariant_of-self-in-None
invariant_of-self-in-None c =
    trial-same c.self.inside.state c.clock.new.self c.self.inside.trips.items c.args.seat c.self.invariant (c.is_idle.ensures c.if-not-is_idle.false).1 c.clock.ensures.event (ap (λ (s : KernelState). s.history) c.clock.ensures.rest)
