use Rattle.std.proofs.Common.{None}
use Rattle.std.specs.Prelude.{replicate}
use Rattle.vm_types.specs.declared.call.Call.TheVariants.{Fork}
use Rattle.test_acts.proofs.TrialLemmas.{idle, trial-at}
use Rattle.bench_kernel.proofs.Makes.{can-try, after-call}
use Rattle.bench_kernel.proofs.machine.Machine.fork.Goals as goal

pub try_call-requires-clause-fits : goal.try_call-requires-clause-fits
try_call-requires-clause-fits c = trial-at c.self.inside.state (replicate c.self.inside.seats None) 0 c.self.invariant (idle c.self.inside.seats 0)

pub try_call-requires-clause-formed : goal.try_call-requires-clause-formed
try_call-requires-clause-formed c = (c.may_make.ensures c.if-not-may_make.false).formed

pub try_call-requires-clause-may : goal.try_call-requires-clause-may
try_call-requires-clause-may c =
    can-try c.self.inside.state c.self.inside.seats 0 (Fork c.args.child) c.self.invariant (c.may_make.ensures c.if-not-may_make.false) (c.may_bear.ensures.0 c.if-not-may_bear.false)

pub invariant_of-self : goal.invariant_of-self
invariant_of-self c =
    after-call c.self.inside.state c.try_call.new.self c.self.inside.seats 0 (Fork c.args.child) c.try_call.result c.self.invariant tt c.try_call.ensures.event c.try_call.ensures.answers c.try_call.ensures.err
