use Rattle.std.proofs.Common.{ℕ, ◌<◌, [], None, length, sym, subst}
use Rattle.vm_core.specs.Fits.{FitsAt}
use Rattle.vm_kernel.specs.Notes.{note_of_held}
use Rattle.vm_kernel.proofs.Fits.{fits-in, seated-in}
use Rattle.vm_kernel.specs.Turns.{caller_at}
use Rattle.vm_kernel.proofs.Calling.{goes-both}
use Rattle.vm_kernel.proofs.Visited.{goes-then, hand-comes, moved-once, no-note, tells-none, tried-number}
use Rattle.vm_kernel.proofs.halves.move_at.Goals as goal

pub hand_and_leave-requires-clause-fits : goal.hand_and_leave-requires-clause-fits
hand_and_leave-requires-clause-fits g c =
    let v = c.args.seat.now in
    let none = no-note c.args.sent.now v.note c.requires.none c.requires.idle.hand in
    subst (λ (k : ℕ). FitsAt c.enter-state.result k None) (sym (tried-number v c.enter-state.new.seat c.enter-state.result c.enter-state.ensures.inside))
    (subst (λ o. FitsAt c.enter-state.result v.number o) none (fits-in c.args.lock.now c.args.lock.now.seats v c.enter-state.result c.enter-state.ensures.state))

pub hand_and_leave-requires-clause-seated : goal.hand_and_leave-requires-clause-seated
hand_and_leave-requires-clause-seated g c =
    let v = c.args.seat.now in
    subst (λ (k : ℕ). k < length c.enter-state.result.syncs) (sym (tried-number v c.enter-state.new.seat c.enter-state.result c.enter-state.ensures.inside))
    (seated-in c.args.lock.now c.args.lock.now.seats v c.enter-state.result c.enter-state.ensures.state c.requires.seats)

pub returns-clause-moves : goal.returns-clause-moves
returns-clause-moves g c =
    let v = c.args.seat.now in
    let note = note_of_held c.hand_and_leave.new.sent in
    let home = c.land.ensures.home in
    let came = hand-comes c.args.lock.now.opening c.args.lock.now.seats v c.enter-state.new.seat c.hand_and_leave.new.seat c.enter-state.result c.enter-state.ensures.state c.enter-state.ensures.inside note
    c.hand_and_leave.ensures.leaves in
    (home.0, home.1, moved-once v c.hand_and_leave.new.seat _ c.args.process home.0 note (no-note c.args.sent.now v.note c.requires.none c.requires.idle.hand) came home.2)

pub returns-clause-hand : goal.returns-clause-hand
returns-clause-hand g c = (
  c.hand_and_leave.new.seat,
  record {
    found = c.enter-state.result;
    finds = c.enter-state.ensures.state;
    inside = c.enter-state.new.seat;
    waited = c.enter-state.ensures.inside;
    note = note_of_held c.hand_and_leave.new.sent;
    leaves = c.hand_and_leave.ensures.leaves;
  },
  c.land.ensures.lands,
)

pub returns-clause-goes : goal.returns-clause-goes
returns-clause-goes g c =
    let v = c.args.seat.now in
    let m = c.hand_and_leave.new.seat in
    let p = c.args.process in
    let note = note_of_held c.hand_and_leave.new.sent in
    let came = hand-comes c.args.lock.now.opening c.args.lock.now.seats v c.enter-state.new.seat m c.enter-state.result c.enter-state.ensures.state c.enter-state.ensures.inside note c.hand_and_leave.ensures.leaves in
    goes-both (caller_at v p) (caller_at m p) (caller_at c.land.new.seat p) (goes-then v m came.state note [] p came.visit (tells-none v.note note v.emptied 0 (no-note c.args.sent.now v.note c.requires.none c.requires.idle.hand))) c.land.ensures.goes
