use Rattle.std.proofs.Common.{Option, None, Some, subst, arith}
use Rattle.volume_files.specs.vm_types.declared.call.Reply.{Reply}
use Rattle.vm_core.specs.Calls.{AnswersCall}
use Rattle.vm_core.specs.vm_world.Events.{IsEvent}
use Rattle.plan_runs.specs.Lines.{MadeNothing}
use Rattle.plan_runs.specs.Transfers.{MakesTransfer}
use Rattle.plan_runs.proofs.Attempts.{failed-made, made-nothing, need-none, no-busy}
use Rattle.plan_runs.proofs.GoingOn.{may-now, may-try, stays-still, still-at}
use Rattle.plan_runs.proofs.Rounds.{goes-from, no-more, one-round}
use Rattle.plan_runs.proofs.Trips.{then-too}
use Rattle.plan_runs.proofs.making.make_other.Given.{Over}
use Rattle.plan_runs.proofs.making.make_other.Goals as goal
use Rattle.plan_runs.proofs.making.make_other.Goals.{After-try_call, After-transfer}

pub loop-round-init : goal.loop-round-init
loop-round-init g c = goes-from c.args.state.now c.args.call.now c.args.frames c.requires.frames

pub try_call-requires-clause-fits : goal.try_call-requires-clause-fits
try_call-requires-clause-fits g c = still-at c.loop-round.state 0 (stays-still c.args.state.now c.loop-round.state c.loop-round.invariant.none.event c.requires.still)

pub try_call-requires-clause-may : goal.try_call-requires-clause-may
try_call-requires-clause-may g c =
    may-try c.loop-round.state c.args.call.now (stays-still c.args.state.now c.loop-round.state c.loop-round.invariant.none.event c.requires.still)
    (may-now c.args.state.now c.loop-round.state c.args.state.now.history c.args.call.now c.loop-round.invariant.none.event c.loop-round.invariant.none.same c.requires.may)

-- since the begin
tried : (g : Over) (c : After-try_call g) → IsEvent 0 c.args.state.now None c.try_call.new.self None
tried g c = then-too c.args.state.now c.loop-round.state c.try_call.new.self c.loop-round.invariant.none.event c.try_call.ensures.event

pub transfer-requires-clause-still : goal.transfer-requires-clause-still
transfer-requires-clause-still g c = stays-still c.args.state.now c.try_call.new.self (tried g (goal.at.transfer-requires-clause-still g c).After-try_call) c.requires.still

pub returns-in-Done-clause-event : goal.returns-in-Done-clause-event
returns-in-Done-clause-event g c = tried g (goal.at.returns-in-Done-clause-event g c).After-try_call

-- nothing was made up to the transfer
needed : (g : Over) (c : After-transfer g) → MadeNothing c.args.state.now c.try_call.new.self
needed g c =
    need-none c.args.state.now c.loop-round.state c.try_call.new.self c.args.call.now c.in-Need.plan c.loop-round.invariant.none c.try_call.ensures.event
    (subst (AnswersCall c.loop-round.state c.try_call.new.self 0 1 c.args.call.now) c.in-Need.is c.in_ok-reply.ensures.answers)

pub returns-in-Some-clause-event : goal.returns-in-Some-clause-event
returns-in-Some-clause-event g c =
    then-too c.args.state.now c.try_call.new.self c.transfer.new.state (needed g (goal.at.returns-in-Some-clause-event g c).After-transfer).event c.transfer.ensures.event

pub returns-in-Some-clause-made : goal.returns-in-Some-clause-made
returns-in-Some-clause-made g c =
    failed-made c.args.state.now c.try_call.new.self c.transfer.new.state c.args.call.now c.transfer.result c.in-Some.reply (needed g (goal.at.returns-in-Some-clause-made g c).After-transfer)
    c.in-Some.is c.transfer.ensures.grows

pub loop-round-preserved : goal.loop-round-preserved
loop-round-preserved g c =
    let t = c.loop-round.state in
    let u = c.try_call.new.self in
    let v = c.transfer.new.state in
    one-round c.args.state.now t u v c.args.call.now c.in-Need.plan c.args.frames c.loop-round._round c.requires.still c.loop-round.invariant c.try_call.ensures.event
    (subst (AnswersCall t u 0 1 c.args.call.now) c.in-Need.is c.in_ok-reply.ensures.answers)
    (subst (λ (answer : Option Reply). MakesTransfer u v c.in-Need.plan (Some (1, c.args.call.now)) answer) c.in_default.is c.transfer.ensures.goes)
    (made-nothing c.args.state.now u v c.args.call.now c.transfer.result (needed g (goal.at.loop-round-preserved g c).After-transfer) c.transfer.ensures.event c.in_default.is c.transfer.ensures.grows)

-- .. and there is an end
pub unreachable-requires-2 : goal.unreachable-requires-2
unreachable-requires-2 g c = no-more c.args.state.now c.loop-round.state c.args.call.now c.args.frames c.loop-round._round c.loop-round.invariant (omega arith)

pub unreachable-requires : goal.unreachable-requires
unreachable-requires g c =
    no-busy c.args.state.now c.loop-round.state c.try_call.new.self c.args.call.now c.in-Busy.field-0 c.requires.still c.requires.alone c.loop-round.invariant.none c.try_call.ensures.event
    (subst (AnswersCall c.loop-round.state c.try_call.new.self 0 1 c.args.call.now) c.in-Busy.is c.in_ok-reply.ensures.answers)
