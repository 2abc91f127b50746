use Rattle.std.proofs.Common.{◌≡◌, ℕ, Option, Some, None, Ok, sym, ap, subst, ◌∙◌}
use Rattle.vm_core.specs.Fits.{FitsAt}
use Rattle.vm_core.specs.vm_types.declared.call.Call.{Call}
use Rattle.vm_core.specs.vm_world.Events.{CanTry, IsEvent}
use Rattle.vm_core.specs.vm_world.State.{KernelState, Sent}
use Rattle.vm_kernel.specs.Callers.{SeatSeen}
use Rattle.vm_kernel.specs.Notes.{InHand, note_of_held}
use Rattle.vm_kernel.specs.Steps.{TriesAccess, tried_of}
use Rattle.vm_kernel.specs.Turns.{IsQuick, caller_at}
use Rattle.vm_kernel.specs.Visits.{LeavesTelling, LeavesAccess}
use Rattle.vm_kernel.proofs.Fits.{event-at, fits-in, tries-in, has-process}
use Rattle.vm_kernel.proofs.Told.{told-none}
use Rattle.vm_kernel.proofs.Tries.{access-tells, one-try, tried-inside}
use Rattle.vm_kernel.proofs.Visited.{Comes, quick-comes, tried-comes, goes-then, idle-then, no-note, entered-so}
use Rattle.vm_kernel.proofs.hits.hit_at.Given.{Over}
use Rattle.vm_kernel.proofs.hits.hit_at.Goals as goal
use Rattle.vm_kernel.proofs.hits.hit_at.Goals.{After-number, After-leave, After-miss_at}

-- the seat is the one that went in
number : (g : Over) (c : After-number g) → c.number.result ≡ c.args.seat.now.number
number g c = c.number.ensures ∙ ap (λ (w : SeatSeen). w.number) c.in-Some.ensures.inside

pub try_hit-requires-clause-fits : goal.try_hit-requires-clause-fits
try_hit-requires-clause-fits g c =
    let v = c.args.seat.now in
    let none = no-note c.args.sent.now v.note c.requires.none c.requires.idle.hand in
    subst (λ (k : ℕ). FitsAt c.in-Some.state k None) (sym (number g (goal.at.try_hit-requires-clause-fits g c).After-number))
    (subst (λ o. FitsAt c.in-Some.state v.number o) none (fits-in c.args.lock.now c.args.lock.now.seats v c.in-Some.state c.in-Some.ensures.state))

pub try_hit-requires-clause-may : goal.try_hit-requires-clause-may
try_hit-requires-clause-may g c =
    let v = c.args.seat.now in
    let named = has-process c.args.lock.now v c.args.process c.args.call.now c.requires.may c.requires.idle.named in
    subst (λ (k : ℕ). CanTry c.in-Some.state k c.args.process c.args.own.now) (sym (number g (goal.at.try_hit-requires-clause-may g c).After-number))
    (subst (λ (x : Call). CanTry c.in-Some.state v.number c.args.process x) (sym c.requires.same)
    (tries-in c.args.lock.now c.args.lock.now.seats v c.in-Some.state c.in-Some.ensures.state c.args.process c.args.call.now c.requires.idle.low named c.requires.may))

-- it went in with no note
free : (g : Over) (c : After-number g) → c.try_enter.new.seat.note ≡ None
free g c = ap (λ (w : SeatSeen). w.note) c.in-Some.ensures.inside ∙ no-note c.args.sent.now c.args.seat.now.note c.requires.none c.requires.idle.hand

-- A HIT
hit-event : (g : Over) (c : After-number g) (t : KernelState) → IsEvent c.number.result c.in-Some.state None t None → IsEvent c.try_enter.new.seat.number c.in-Some.state c.try_enter.new.seat.note t (note_of_held c.args.sent.now)
hit-event g c t event =
    event-at c.in-Some.state t c.number.result c.try_enter.new.seat.number None c.try_enter.new.seat.note (note_of_held c.args.sent.now) c.number.ensures (free g c)
    (subst (λ o. IsEvent c.number.result c.in-Some.state None t (note_of_held o)) (sym c.requires.none) event)

pub leave-requires-clause-moves : goal.leave-requires-clause-moves
leave-requires-clause-moves g c = (
  c.in-Some.state,
  ap (λ (w : SeatSeen). w.state) c.in-Some.ensures.inside,
  hit-event g (goal.at.leave-requires-clause-moves g c).After-number c.try_hit.new.self c.in-Some-try_hit.ensures.event,
)

hit-leaves : (g : Over) (c : After-leave g) → LeavesTelling {E = Unit {0}} 0 0 c.try_enter.new.seat c.in-Some.state c.args.process c.args.call.now c.leave.new.seat (note_of_held c.args.sent.now) (Ok (tried_of c.in-Some-try_hit.answer))
hit-leaves g c =
    let b = c.try_enter.new.seat in
    let t = c.try_hit.new.self in
    let none = ap (λ (w : SeatSeen). w.note) c.in-Some.ensures.inside ∙ no-note c.args.sent.now c.args.seat.now.note c.requires.none c.requires.idle.hand in (
      t,
      record {
        new = c.leave.ensures.new ∙ told-none _;
        event = event-at c.in-Some.state t c.number.result b.number None b.note (note_of_held c.args.sent.now) c.number.ensures none
            (subst (λ o. IsEvent c.number.result c.in-Some.state None t (note_of_held o)) (sym c.requires.none) c.in-Some-try_hit.ensures.event);
      },
      subst (λ (k : ℕ). TriesAccess c.in-Some.state t k c.args.process c.args.call.now (note_of_held c.args.sent.now) c.in-Some-try_hit.answer) c.number.ensures
          (subst (λ (x : Call). TriesAccess c.in-Some.state t c.number.result c.args.process x (note_of_held c.args.sent.now) c.in-Some-try_hit.answer) c.requires.same
          (subst (λ o. TriesAccess c.in-Some.state t c.number.result c.args.process c.args.own.now (note_of_held o) c.in-Some-try_hit.answer) (sym c.requires.none) c.in-Some-try_hit.ensures.tries)),
    )

hit-comes : (g : Over) (c : After-leave g) → Comes {E = Unit {0}} c.args.seat.now c.args.process c.args.call.now c.leave.new.seat (note_of_held c.args.sent.now) (Ok (tried_of c.in-Some-try_hit.answer))
hit-comes g c =
    let v = c.args.seat.now in
    let b = c.try_enter.new.seat in
    tried-comes c.args.lock.now.opening c.args.lock.now.seats v b c.leave.new.seat c.in-Some.state c.args.process c.args.call.now (note_of_held c.args.sent.now)
    c.in-Some.ensures.state (entered-so v b c.in-Some.state c.in-Some.ensures.inside)
    (has-process c.args.lock.now v c.args.process c.args.call.now c.requires.may c.requires.idle.named) (no-note c.args.sent.now v.note c.requires.none c.requires.idle.hand) 0 0 (Ok (tried_of c.in-Some-try_hit.answer))
    (access-tells c.args.lock.now c.args.process c.args.call.now c.in-Some-try_hit.answer c.requires.access) (hit-leaves g c)

pub returns-in-Some-try_hit-clause-all : goal.returns-in-Some-try_hit-clause-all
returns-in-Some-try_hit-clause-all g c =
    let v = c.args.seat.now in
    one-try c.args.lock.now c.args.process c.args.call.now v c.leave.new.seat
    (tried-inside c.args.lock.now c.args.process c.args.call.now (Unit {0}) 0 0 v c.try_enter.new.seat c.leave.new.seat c.in-Some.state (note_of_held c.args.sent.now) (tried_of c.in-Some-try_hit.answer)
    c.in-Some.ensures.state c.in-Some.ensures.inside (access-tells c.args.lock.now c.args.process c.args.call.now c.in-Some-try_hit.answer c.requires.access) (hit-leaves g (goal.at.returns-in-Some-try_hit-clause-all g c).After-leave))

pub returns-in-Some-try_hit-clause-idle : goal.returns-in-Some-try_hit-clause-idle
returns-in-Some-try_hit-clause-idle g c =
    let x = hit-comes g (goal.at.returns-in-Some-try_hit-clause-idle g c).After-leave in
    idle-then c.args.seat.now c.leave.new.seat x.state (note_of_held c.args.sent.now) x.added c.args.process x.visit c.args.sent.now c.args.sent.now c.requires.idle
    (subst (λ o. InHand o (note_of_held o)) (sym c.requires.none) tt)

pub returns-in-Some-try_hit-clause-goes : goal.returns-in-Some-try_hit-clause-goes
returns-in-Some-try_hit-clause-goes g c =
    let x = hit-comes g (goal.at.returns-in-Some-try_hit-clause-goes g c).After-leave in
    goes-then c.args.seat.now c.leave.new.seat x.state (note_of_held c.args.sent.now) x.added c.args.process x.visit x.home

pub returns-in-Some-try_hit-clause-quick : goal.returns-in-Some-try_hit-clause-quick
returns-in-Some-try_hit-clause-quick g c =
    let x = hit-comes g (goal.at.returns-in-Some-try_hit-clause-quick g c).After-leave in
    subst (IsQuick (caller_at c.args.seat.now c.args.process) c.args.call.now (caller_at c.leave.new.seat c.args.process)) (sym c.quick_of.ensures)
    (quick-comes (caller_at c.args.seat.now c.args.process) c.args.call.now (caller_at c.leave.new.seat c.args.process) c.in-Some-try_hit.answer x.half)

-- NO HIT: the state is as it was.
pub miss_at-requires-clause-inside : goal.miss_at-requires-clause-inside
miss_at-requires-clause-inside g c = (
  ap (λ (w : SeatSeen). w.inside) c.in-Some.ensures.inside,
  ap (λ (w : SeatSeen). w.state) c.in-Some.ensures.inside ∙ ap Some (sym c.in_default-try_hit.ensures.none),
  free g (goal.at.miss_at-requires-clause-inside g c).After-number,
)

pub miss_at-requires-clause-fits : goal.miss_at-requires-clause-fits
miss_at-requires-clause-fits g c =
    let v = c.args.seat.now in
    let none = no-note c.args.sent.now v.note c.requires.none c.requires.idle.hand in
    subst (λ (s : KernelState). FitsAt s c.try_enter.new.seat.number None) (sym c.in_default-try_hit.ensures.none)
    (subst (λ (k : ℕ). FitsAt c.in-Some.state k None) (sym (ap (λ (w : SeatSeen). w.number) c.in-Some.ensures.inside))
    (subst (λ o. FitsAt c.in-Some.state v.number o) none (fits-in c.args.lock.now c.args.lock.now.seats v c.in-Some.state c.in-Some.ensures.state)))

pub miss_at-requires-clause-may : goal.miss_at-requires-clause-may
miss_at-requires-clause-may g c =
    let v = c.args.seat.now in
    let named = has-process c.args.lock.now v c.args.process c.args.call.now c.requires.may c.requires.idle.named in
    subst (λ (s : KernelState). CanTry s c.try_enter.new.seat.number c.args.process c.args.call.now) (sym c.in_default-try_hit.ensures.none)
    (subst (λ (k : ℕ). CanTry c.in-Some.state k c.args.process c.args.call.now) (sym (ap (λ (w : SeatSeen). w.number) c.in-Some.ensures.inside))
    (tries-in c.args.lock.now c.args.lock.now.seats v c.in-Some.state c.in-Some.ensures.state c.args.process c.args.call.now c.requires.idle.low named c.requires.may))

miss-leaves : (g : Over) (c : After-miss_at g) → LeavesAccess c.try_enter.new.seat c.in-Some.state c.args.process c.args.call.now c.miss_at.new.seat c.miss_at.ensures.leaves.1 c.miss_at.ensures.leaves.0
miss-leaves g c =
    let l = c.miss_at.ensures.leaves in
    subst (λ (s : KernelState). LeavesAccess c.try_enter.new.seat s c.args.process c.args.call.now c.miss_at.new.seat l.1 l.0) c.in_default-try_hit.ensures.none l.3

miss-comes : (g : Over) (c : After-miss_at g) → Comes {E = Unit {0}} c.args.seat.now c.args.process c.args.call.now c.miss_at.new.seat c.miss_at.ensures.leaves.1 (Ok (tried_of c.miss_at.ensures.leaves.0))
miss-comes g c =
    let v = c.args.seat.now in
    let l = c.miss_at.ensures.leaves in
    tried-comes c.args.lock.now.opening c.args.lock.now.seats v c.try_enter.new.seat c.miss_at.new.seat c.in-Some.state c.args.process c.args.call.now l.1
    c.in-Some.ensures.state (entered-so v c.try_enter.new.seat c.in-Some.state c.in-Some.ensures.inside)
    (has-process c.args.lock.now v c.args.process c.args.call.now c.requires.may c.requires.idle.named) (no-note c.args.sent.now v.note c.requires.none c.requires.idle.hand) 0 0 (Ok (tried_of l.0))
    (access-tells c.args.lock.now c.args.process c.args.call.now l.0 c.requires.access) (miss-leaves g c)

pub returns-clause-all : goal.returns-clause-all
returns-clause-all g c =
    let v = c.args.seat.now in
    let l = c.miss_at.ensures.leaves in
    one-try c.args.lock.now c.args.process c.args.call.now v c.miss_at.new.seat
    (tried-inside c.args.lock.now c.args.process c.args.call.now (Unit {0}) 0 0 v c.try_enter.new.seat c.miss_at.new.seat c.in-Some.state l.1 (tried_of l.0)
    c.in-Some.ensures.state c.in-Some.ensures.inside (access-tells c.args.lock.now c.args.process c.args.call.now l.0 c.requires.access) (miss-leaves g (goal.at.returns-clause-all g c).After-miss_at))

pub returns-clause-idle : goal.returns-clause-idle
returns-clause-idle g c =
    let x = miss-comes g (goal.at.returns-clause-idle g c).After-miss_at in
    idle-then c.args.seat.now c.miss_at.new.seat x.state c.miss_at.ensures.leaves.1 x.added c.args.process x.visit c.args.sent.now c.miss_at.new.sent c.requires.idle c.miss_at.ensures.leaves.4

pub returns-clause-goes : goal.returns-clause-goes
returns-clause-goes g c =
    let x = miss-comes g (goal.at.returns-clause-goes g c).After-miss_at in
    goes-then c.args.seat.now c.miss_at.new.seat x.state c.miss_at.ensures.leaves.1 x.added c.args.process x.visit x.home

pub returns-clause-quick : goal.returns-clause-quick
returns-clause-quick g c =
    let x = miss-comes g (goal.at.returns-clause-quick g c).After-miss_at in
    subst (IsQuick (caller_at c.args.seat.now c.args.process) c.args.call.now (caller_at c.miss_at.new.seat c.args.process)) (sym c.miss_at.ensures.leaves.2)
    (quick-comes (caller_at c.args.seat.now c.args.process) c.args.call.now (caller_at c.miss_at.new.seat c.args.process) c.miss_at.ensures.leaves.0 x.half)
