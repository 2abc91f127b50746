use Rattle.std.proofs.Common.{◌+◌, None}
use Rattle.std.specs.Prelude.{replicate}
use Rattle.test_acts.proofs.TrialLemmas.{idle, trial-at}
use Rattle.bench_kernel.proofs.Makes.{own-bears, can-try, after-call}
use Rattle.bench_kernel.proofs.machine.Machine.make.Goals as goal

pub try_call-requires-clause-fits : goal.try_call-requires-clause-fits
try_call-requires-clause-fits c = trial-at c.self.inside.state (replicate c.self.inside.seats None) c.args.seat c.self.invariant (idle c.self.inside.seats c.args.seat)

pub try_call-requires-clause-formed : goal.try_call-requires-clause-formed
try_call-requires-clause-formed c = (c.may_make.ensures c.if-not-may_make.false).formed

pub try_call-requires-clause-may : goal.try_call-requires-clause-may
try_call-requires-clause-may c =
    can-try c.self.inside.state c.self.inside.seats c.args.seat c.args.call.now c.self.invariant (c.may_make.ensures c.if-not-may_make.false) (own-bears c.self.inside.state (c.args.seat + 1) c.args.call.now c.requires.own)

pub invariant_of-self : goal.invariant_of-self
invariant_of-self c =
    after-call c.self.inside.state c.try_call.new.self c.self.inside.seats c.args.seat c.args.call.now c.try_call.result c.self.invariant c.requires.part c.try_call.ensures.event c.try_call.ensures.answers c.try_call.ensures.err
