use Rattle.std.proofs.Common.{ap}
use Rattle.vm_kernel.specs.Callers.{CallerSeen}
use Rattle.bench_kernel.proofs.Rows.{may-make, has-called}
use Rattle.bench_kernel.proofs.callers.make.Goals as goal

pub call-requires-clause-caller : goal.call-requires-clause-caller
call-requires-clause-caller g c = c.requires.ready.of

pub call-requires-clause-may : goal.call-requires-clause-may
call-requires-clause-may g c = may-make c.args.kernel.now c.args._left c.args.caller.now c.args.call.now c.requires.ready c.requires.some c.requires.call.0 c.requires.call.1

pub returns-clause-ready : goal.returns-clause-ready
returns-clause-ready g c =
    has-called c.args.kernel.now c.args._left c.args.caller.now c.call.new.caller c.args.call.now c.requires.ready c.call.ensures.caller c.call.ensures.goes c.call.result
    (may-make c.args.kernel.now c.args._left c.args.caller.now c.args.call.now c.requires.ready c.requires.some c.requires.call.0 c.requires.call.1)
    c.requires.call.0 c.call.ensures.done c.call.ensures.err

pub returns-clause-number : goal.returns-clause-number
returns-clause-number g c = c.call.ensures.goes.number
