use Rattle.std.proofs.Common.{ℕ, None, Ok, sym, ap, subst}
use Rattle.vm_core.specs.Fits.{FitsAt}
use Rattle.vm_core.specs.vm_world.Events.{CanTry}
use Rattle.vm_kernel.specs.Callers.{SeatSeen}
use Rattle.vm_kernel.specs.Notes.{note_of_held}
use Rattle.vm_kernel.specs.Steps.{tried_of}
use Rattle.vm_kernel.specs.Turns.{IsQuick, caller_at}
use Rattle.vm_kernel.proofs.Fits.{fits-in, tries-in, has-process}
use Rattle.vm_kernel.proofs.Visited.{Comes, quick-comes, tried-comes, goes-then, no-note, entered-so}
use Rattle.vm_kernel.proofs.halves.access_at.Given.{Over}
use Rattle.vm_kernel.proofs.halves.access_at.Goals as goal
use Rattle.vm_kernel.proofs.Tries.{access-tells, one-try, tried-inside}
use Rattle.vm_kernel.proofs.halves.access_at.Goals.{After-access_and_leave-answer}

pub access_and_leave-answer-requires-clause-fits : goal.access_and_leave-answer-requires-clause-fits
access_and_leave-answer-requires-clause-fits g c =
    let v = c.args.seat.now in
    let none = no-note c.args.sent.now v.note c.requires.none c.requires.idle.hand in
    subst (λ (k : ℕ). FitsAt c.in-Some.state k None) (sym (ap (λ (w : SeatSeen). w.number) c.in-Some.ensures.inside))
    (subst (λ o. FitsAt c.in-Some.state v.number o) none (fits-in c.args.lock.now c.args.lock.now.seats v c.in-Some.state c.in-Some.ensures.state))

pub access_and_leave-answer-requires-clause-may : goal.access_and_leave-answer-requires-clause-may
access_and_leave-answer-requires-clause-may g c =
    let v = c.args.seat.now in
    let named = has-process c.args.lock.now v c.args.process c.args.call.now c.requires.may c.requires.idle.named in
    subst (λ (k : ℕ). CanTry c.in-Some.state k c.args.process c.args.call.now) (sym (ap (λ (w : SeatSeen). w.number) c.in-Some.ensures.inside))
    (tries-in c.args.lock.now c.args.lock.now.seats v c.in-Some.state c.in-Some.ensures.state c.args.process c.args.call.now c.requires.idle.low named c.requires.may)

-- what the try comes to
comes : (g : Over) (c : After-access_and_leave-answer g) → Comes {E = Unit {0}} c.args.seat.now c.args.process c.args.call.now c.access_and_leave-answer.new.seat (note_of_held c.access_and_leave-answer.new.sent) (Ok (tried_of c.access_and_leave-answer.result))
comes g c =
    let v = c.args.seat.now in
    tried-comes c.args.lock.now.opening c.args.lock.now.seats v c.try_enter.new.seat c.access_and_leave-answer.new.seat c.in-Some.state c.args.process c.args.call.now (note_of_held c.access_and_leave-answer.new.sent)
    c.in-Some.ensures.state (entered-so v c.try_enter.new.seat c.in-Some.state c.in-Some.ensures.inside)
    (has-process c.args.lock.now v c.args.process c.args.call.now c.requires.may c.requires.idle.named) (no-note c.args.sent.now v.note c.requires.none c.requires.idle.hand) 0 0 (Ok (tried_of c.access_and_leave-answer.result))
    (access-tells c.args.lock.now c.args.process c.args.call.now c.access_and_leave-answer.result c.requires.access) c.access_and_leave-answer.ensures.leaves

pub returns-clause-goes : goal.returns-clause-goes
returns-clause-goes g c =
    let x = comes g (goal.at.returns-clause-goes g c).After-access_and_leave-answer in
    goes-then c.args.seat.now c.access_and_leave-answer.new.seat x.state (note_of_held c.access_and_leave-answer.new.sent) x.added c.args.process x.visit x.home

pub returns-clause-quick : goal.returns-clause-quick
returns-clause-quick g c =
    let x = comes g (goal.at.returns-clause-quick g c).After-access_and_leave-answer in
    subst (IsQuick (caller_at c.args.seat.now c.args.process) c.args.call.now (caller_at c.access_and_leave-answer.new.seat c.args.process)) (sym c.quick_of.ensures)
    (quick-comes (caller_at c.args.seat.now c.args.process) c.args.call.now (caller_at c.access_and_leave-answer.new.seat c.args.process) c.access_and_leave-answer.result x.half)

pub returns-clause-all : goal.returns-clause-all
returns-clause-all g c =
    let v = c.args.seat.now in
    let w = c.access_and_leave-answer.new.seat in
    one-try c.args.lock.now c.args.process c.args.call.now v w
    (tried-inside c.args.lock.now c.args.process c.args.call.now (Unit {0}) 0 0 v c.try_enter.new.seat w c.in-Some.state (note_of_held c.access_and_leave-answer.new.sent) (tried_of c.access_and_leave-answer.result)
    c.in-Some.ensures.state c.in-Some.ensures.inside (access-tells c.args.lock.now c.args.process c.args.call.now c.access_and_leave-answer.result c.requires.access) c.access_and_leave-answer.ensures.leaves)
