use Rattle.std.proofs.Common.{Option, None, Some, subst, arith}
use Rattle.volume_files.specs.vm_types.declared.call.Reply.{Reply}
use Rattle.vm_core.specs.Calls.{AnswersCall}
use Rattle.vm_core.specs.fault_entry.Answers.{attempt_of}
use Rattle.vm_core.specs.fault_entry.declared.answers.Answer.{Answer}
use Rattle.vm_core.specs.vm_world.Events.{IsEvent}
use Rattle.plan_runs.specs.Lines.{MadeNothing}
use Rattle.plan_runs.specs.Transfers.{MakesTransfer}
use Rattle.plan_runs.proofs.Attempts.{failed-made, made-nothing, need-none, no-busy}
use Rattle.plan_runs.proofs.GoingOn.{may-now, may-try, stays-still, still-at}
use Rattle.plan_runs.proofs.Rounds.{goes-from, no-more, one-round}
use Rattle.plan_runs.proofs.Trips.{then-too}
use Rattle.plan_runs.proofs.making.make_access.Given.{Over}
use Rattle.plan_runs.proofs.making.make_access.Goals as goal
use Rattle.plan_runs.proofs.making.make_access.Goals.{After-try_access, After-transfer}

pub loop-round-init : goal.loop-round-init
loop-round-init g c = goes-from c.args.state.now c.args.call.now c.args.frames c.requires.frames

pub try_access-requires-clause-fits : goal.try_access-requires-clause-fits
try_access-requires-clause-fits g c = still-at c.loop-round.state 0 (stays-still c.args.state.now c.loop-round.state c.loop-round.invariant.none.event c.requires.still)

pub try_access-requires-clause-may : goal.try_access-requires-clause-may
try_access-requires-clause-may g c =
    may-try c.loop-round.state c.args.call.now (stays-still c.args.state.now c.loop-round.state c.loop-round.invariant.none.event c.requires.still)
    (may-now c.args.state.now c.loop-round.state c.args.state.now.history c.args.call.now c.loop-round.invariant.none.event c.loop-round.invariant.none.same c.requires.may)

-- since the begin
tried : (g : Over) (c : After-try_access g) → IsEvent 0 c.args.state.now None c.try_access.new.self None
tried g c = then-too c.args.state.now c.loop-round.state c.try_access.new.self c.loop-round.invariant.none.event c.try_access.ensures.event

pub transfer-requires-clause-still : goal.transfer-requires-clause-still
transfer-requires-clause-still g c = stays-still c.args.state.now c.try_access.new.self (tried g (goal.at.transfer-requires-clause-still g c).After-try_access) c.requires.still

pub returns-in-Word-clause-event : goal.returns-in-Word-clause-event
returns-in-Word-clause-event g c = tried g (goal.at.returns-in-Word-clause-event g c).After-try_access

pub returns-in-Stored-clause-event : goal.returns-in-Stored-clause-event
returns-in-Stored-clause-event g c = tried g (goal.at.returns-in-Stored-clause-event g c).After-try_access

pub returns-in-Signal-clause-event : goal.returns-in-Signal-clause-event
returns-in-Signal-clause-event g c = tried g (goal.at.returns-in-Signal-clause-event g c).After-try_access

-- nothing was made up to the transfer
needed : (g : Over) (c : After-transfer g) → MadeNothing c.args.state.now c.try_access.new.self
needed g c =
    need-none c.args.state.now c.loop-round.state c.try_access.new.self c.args.call.now c.in-Need.plan c.loop-round.invariant.none c.try_access.ensures.event
    (subst (λ (a : Answer). AnswersCall c.loop-round.state c.try_access.new.self 0 1 c.args.call.now (attempt_of a)) c.in-Need.is c.try_access.ensures.answers)

pub returns-in-Some-clause-event : goal.returns-in-Some-clause-event
returns-in-Some-clause-event g c =
    then-too c.args.state.now c.try_access.new.self c.transfer.new.state (needed g (goal.at.returns-in-Some-clause-event g c).After-transfer).event c.transfer.ensures.event

pub returns-in-Some-clause-made : goal.returns-in-Some-clause-made
returns-in-Some-clause-made g c =
    failed-made c.args.state.now c.try_access.new.self c.transfer.new.state c.args.call.now c.transfer.result c.in-Some.reply (needed g (goal.at.returns-in-Some-clause-made g c).After-transfer)
    c.in-Some.is c.transfer.ensures.grows

pub loop-round-preserved : goal.loop-round-preserved
loop-round-preserved g c =
    let t = c.loop-round.state in
    let u = c.try_access.new.self in
    let v = c.transfer.new.state in
    one-round c.args.state.now t u v c.args.call.now c.in-Need.plan c.args.frames c.loop-round._round c.requires.still c.loop-round.invariant c.try_access.ensures.event
    (subst (λ (a : Answer). AnswersCall t u 0 1 c.args.call.now (attempt_of a)) c.in-Need.is c.try_access.ensures.answers)
    (subst (λ (answer : Option Reply). MakesTransfer u v c.in-Need.plan (Some (1, c.args.call.now)) answer) c.in_default.is c.transfer.ensures.goes)
    (made-nothing c.args.state.now u v c.args.call.now c.transfer.result (needed g (goal.at.loop-round-preserved g c).After-transfer) c.transfer.ensures.event c.in_default.is c.transfer.ensures.grows)

-- .. and there is an end
pub unreachable-requires-2 : goal.unreachable-requires-2
unreachable-requires-2 g c = no-more c.args.state.now c.loop-round.state c.args.call.now c.args.frames c.loop-round._round c.loop-round.invariant (omega arith)

pub unreachable-requires : goal.unreachable-requires
unreachable-requires g c =
    no-busy c.args.state.now c.loop-round.state c.try_access.new.self c.args.call.now c.in-Busy.field-0 c.requires.still c.requires.alone c.loop-round.invariant.none c.try_access.ensures.event
    (subst (λ (a : Answer). AnswersCall c.loop-round.state c.try_access.new.self 0 1 c.args.call.now (attempt_of a)) c.in-Busy.is c.try_access.ensures.answers)
