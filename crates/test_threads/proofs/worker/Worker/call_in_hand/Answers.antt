use Rattle.std.proofs.Common.{◌≡◌, true, false, sym, subst, ◌∙◌}
use Rattle.vm_kernel.specs.Turns.{IsForCall}
use Rattle.test_threads.proofs.Working.{hand-none, hand-last, hand-kind}
use Rattle.test_threads.proofs.worker.Worker.call_in_hand.Goals as goal

pub returns-then-is_free-clause-hand : goal.returns-then-is_free-clause-hand
returns-then-is_free-clause-hand g c = subst (IsForCall c.args.self.now.process c.args.call.now) (sym (c.is_free.ensures.0 c.if-is_free.true)) tt

pub returns-in-Some-clause-call : goal.returns-in-Some-clause-call
returns-in-Some-clause-call g c =
    hand-kind c.args.self.now.process c.in-Some.last c.args.self.now.last c.args.self.now.caller.seat.note c.in-Some.is c.requires.works.1.hand
    (λ none. absurd (let z : false ≡ true = sym c.if-is_free.false ∙ c.is_free.ensures.1 none in cc (z)))

pub returns-in-Some-clause-hand : goal.returns-in-Some-clause-hand
returns-in-Some-clause-hand g c = hand-last c.args.self.now.process c.in-Some.last c.args.self.now.last c.args.self.now.caller.seat.note c.in-Some.is c.requires.works.1.hand

pub returns-in-None-clause-hand : goal.returns-in-None-clause-hand
returns-in-None-clause-hand g c = hand-none c.args.self.now.process c.args.call.now c.args.self.now.last c.args.self.now.caller.seat.note c.in-None.is c.requires.works.1.hand
