use Rattle.std.proofs.Common.{subst}
use Rattle.vm_kernel.specs.Turns.{IsQuick}
use Rattle.vm_kernel.proofs.Calling.{call-done-since, call-lacks-since, goes-both, may-still}
use Rattle.vm_kernel.proofs.Tries.{all-since}
use Rattle.vm_kernel.proofs.kernel.VmKernel.call.Goals as goal

pub by_turns-requires-clause-may : goal.by_turns-requires-clause-may
by_turns-requires-clause-may g c =
    let later = subst (IsQuick c.args.caller.now c.args.call.now c.hit.new.caller) c.in-Later.is c.hit.ensures.quick in
    may-still c.args.self.now c.args.caller.now c.hit.new.caller c.args.call.now c.requires.may c.hit.ensures.goes later.0 later.1

pub returns-in-Later-clause-goes : goal.returns-in-Later-clause-goes
returns-in-Later-clause-goes g c = goes-both c.args.caller.now c.hit.new.caller c.by_turns.new.caller c.hit.ensures.goes c.by_turns.ensures.goes

pub returns-in-Later-clause-done : goal.returns-in-Later-clause-done
returns-in-Later-clause-done g c =
    let later = subst (IsQuick c.args.caller.now c.args.call.now c.hit.new.caller) c.in-Later.is c.hit.ensures.quick in
    call-done-since c.args.caller.now c.hit.new.caller c.by_turns.new.caller c.args.call.now c.hit.ensures.goes c.by_turns.ensures.goes later.0 c.by_turns.result c.by_turns.ensures.done

pub returns-in-Later-clause-err : goal.returns-in-Later-clause-err
returns-in-Later-clause-err g c =
    let later = subst (IsQuick c.args.caller.now c.args.call.now c.hit.new.caller) c.in-Later.is c.hit.ensures.quick in
    call-lacks-since c.args.caller.now c.hit.new.caller c.by_turns.new.caller c.args.call.now c.hit.ensures.goes c.by_turns.ensures.goes later.0 c.by_turns.result c.by_turns.ensures.err

pub returns-in-Later-clause-all : goal.returns-in-Later-clause-all
returns-in-Later-clause-all g c =
    all-since c.args.self.now c.args.caller.now c.hit.new.caller c.by_turns.new.caller c.args.call.now c.hit.ensures.goes.process c.hit.ensures.all c.by_turns.result c.by_turns.ensures.all
