use Rattle.std.proofs.Common.{◌+◌, add-one, ap}
use Rattle.seg_ops.specs.vm_world.State.{seat_of}
use Rattle.test_acts.proofs.TrialLemmas.{trial-at, trial-answered}
use Rattle.test_acts.proofs.trial.Trial.try_call.Goals as goal

pub try_call-requires-clause-fits : goal.try_call-requires-clause-fits
try_call-requires-clause-fits c = trial-at c.self.inside.state c.self.inside.trips.items c.args.seat c.self.invariant (c.may_try.ensures c.if-not-may_try.false).idle

pub try_call-requires-clause-formed : goal.try_call-requires-clause-formed
try_call-requires-clause-formed c = (c.may_try.ensures c.if-not-may_try.false).formed

pub try_call-requires-clause-may : goal.try_call-requires-clause-may
try_call-requires-clause-may c =
    let may = c.may_try.ensures c.if-not-may_try.false in
    record {
      own = ap seat_of (add-one c.args.seat);
      alive = may.alive;
      room = may.room;
      follows = λ reply cleared. c.self.invariant.follows (record { process = c.args.seat + 1; call = c.args.call.now; reply = reply; cleared = cleared });
      bears = may.bears;
    }

pub invariant_of-self-in-Done : goal.invariant_of-self-in-Done
invariant_of-self-in-Done c =
    trial-answered c.self.inside.state c.try_call.new.self c.self.inside.trips.items c.args.seat _ c.args.call.now _ c.self.invariant (c.may_try.ensures c.if-not-may_try.false).idle c.requires c.try_call.ensures.event c.in_ok-reply.ensures.answers

pub invariant_of-self-in-Busy : goal.invariant_of-self-in-Busy
invariant_of-self-in-Busy c =
    trial-answered c.self.inside.state c.try_call.new.self c.self.inside.trips.items c.args.seat _ c.args.call.now _ c.self.invariant (c.may_try.ensures c.if-not-may_try.false).idle c.requires c.try_call.ensures.event c.in_ok-reply.ensures.answers

pub invariant_of-self-then-not-begins : goal.invariant_of-self-then-not-begins
invariant_of-self-then-not-begins c =
    trial-answered c.self.inside.state c.try_call.new.self c.self.inside.trips.items c.args.seat _ c.args.call.now _ c.self.invariant (c.may_try.ensures c.if-not-may_try.false).idle c.requires c.try_call.ensures.event c.in_ok-reply.ensures.answers

pub send-requires-clause-trial : goal.send-requires-clause-trial
send-requires-clause-trial c =
    trial-answered c.self.inside.state c.try_call.new.self c.self.inside.trips.items c.args.seat _ c.args.call.now _ c.self.invariant (c.may_try.ensures c.if-not-may_try.false).idle c.requires c.try_call.ensures.event c.in_ok-reply.ensures.answers
