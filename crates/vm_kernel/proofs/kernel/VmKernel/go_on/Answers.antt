use Rattle.std.proofs.Common.{sym, subst}
use Rattle.vm_kernel.specs.Turns.{HasComeTo, IsTurn, turn_of_ended}
use Rattle.vm_kernel.proofs.kernel.VmKernel.go_on.Goals as goal

pub returns-in-Failed-clause-turn : goal.returns-in-Failed-clause-turn
returns-in-Failed-clause-turn g c = subst (λ e. IsTurn c.args.caller.now c.args.call.now c.end_and_rest.new.caller (turn_of_ended e)) c.in-Failed.is c.end_and_rest.ensures.turn

pub returns-in-Moved-clause-turn : goal.returns-in-Moved-clause-turn
returns-in-Moved-clause-turn g c =
    let turn = subst (λ e. IsTurn c.args.caller.now c.args.call.now c.end_and_rest.new.caller (turn_of_ended e)) c.in-Moved.is c.end_and_rest.ensures.turn in
    subst (HasComeTo c.args.caller.now c.args.call.now c.end_and_rest.new.caller) (sym c.requires.none) (turn.0, turn.1)

pub returns-in-Held-clause-turn : goal.returns-in-Held-clause-turn
returns-in-Held-clause-turn g c =
    let turn = subst (λ e. IsTurn c.args.caller.now c.args.call.now c.end_and_rest.new.caller (turn_of_ended e)) c.in-Held.is c.end_and_rest.ensures.turn in
    subst (HasComeTo c.args.caller.now c.args.call.now c.end_and_rest.new.caller) (sym c.requires.none) (turn.0, turn.1)
