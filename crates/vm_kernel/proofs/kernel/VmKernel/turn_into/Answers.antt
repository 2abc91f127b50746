use Rattle.std.proofs.Common.{sym, subst}
use Rattle.vm_kernel.specs.Turns.{HasComeTo, IsTurn}
use Rattle.vm_kernel.proofs.kernel.VmKernel.turn_into.Goals as goal

pub returns-in-Done-clause-turn : goal.returns-in-Done-clause-turn
returns-in-Done-clause-turn g c = subst (IsTurn c.args.caller.now c.args.call.now c.turn_and_rest.new.caller) c.in-Done.is c.in_ok-done.ensures.turn

pub returns-in-Again-clause-turn : goal.returns-in-Again-clause-turn
returns-in-Again-clause-turn g c =
    let turn = subst (IsTurn c.args.caller.now c.args.call.now c.turn_and_rest.new.caller) c.in-Again.is c.in_ok-done.ensures.turn in
    subst (HasComeTo c.args.caller.now c.args.call.now c.turn_and_rest.new.caller) (sym c.requires.none) (turn.0, turn.1)
