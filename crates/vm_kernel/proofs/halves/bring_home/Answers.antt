use Rattle.std.proofs.Common.{sym, ap, ◌∙◌, subst, arith, inr}
use Rattle.vm_core.specs.Fits.{FitsAt}
use Rattle.vm_kernel.specs.Callers.{SeatSeen}
use Rattle.vm_kernel.specs.Notes.{InHand}
use Rattle.vm_kernel.specs.Steps.{IsForNone}
use Rattle.vm_kernel.proofs.Fits.{fits-in}
use Rattle.vm_kernel.proofs.Visited.{in-hand, landed-comes, lands-home, sent-for-none}
use Rattle.vm_kernel.proofs.halves.bring_home.Goals as goal

pub end_and_leave-requires-clause-fits : goal.end_and_leave-requires-clause-fits
end_and_leave-requires-clause-fits g c =
    subst (λ (w : SeatSeen). FitsAt c.enter-state.result w.number w.note) (sym c.enter-state.ensures.inside.3)
    (fits-in c.args.lock.now c.args.lock.now.seats c.args.seat.now c.enter-state.result c.enter-state.ensures.state)

pub end_and_leave-requires-clause-of : goal.end_and_leave-requires-clause-of
end_and_leave-requires-clause-of g c = sent-for-none c.in-Some.flight c.args.sent.now c.args.seat.now.note (sym c.take.ensures.value ∙ c.in-Some.is) c.requires.idle.hand c.requires.of

pub returns-clause-home : goal.returns-clause-home
returns-clause-home g c =
    let v = c.args.seat.now in
    let n = in-hand c.in-Some.flight v.note (subst (λ sent. InHand sent v.note) (sym c.take.ensures.value ∙ c.in-Some.is) c.requires.idle.hand) in
    let came = landed-comes c.args.lock.now.opening c.args.lock.now.seats v c.enter-state.new.seat c.end_and_leave.new.seat c.enter-state.result c.enter-state.ensures.state c.enter-state.ensures.inside n.0 c.end_and_leave.result
    (subst IsForNone n.1 c.requires.of) (c.end_and_leave.ensures.leaves n.0 (ap (λ (w : SeatSeen). w.note) c.enter-state.ensures.inside.3 ∙ n.1)) in
    (1, omega arith, lands-home v c.end_and_leave.new.seat c.args.process n.0 n.1 came)

pub returns-clause-lands : goal.returns-clause-lands
returns-clause-lands g c =
    let v = c.args.seat.now in
    let n = in-hand c.in-Some.flight v.note (subst (λ sent. InHand sent v.note) (sym c.take.ensures.value ∙ c.in-Some.is) c.requires.idle.hand) in
    inr (record {
      found = c.enter-state.result;
      finds = c.enter-state.ensures.state;
      inside = c.enter-state.new.seat;
      waited = c.enter-state.ensures.inside;
      note = n.0;
      noted = n.1;
      of = subst IsForNone n.1 c.requires.of;
      reply = c.end_and_leave.result;
      leaves = c.end_and_leave.ensures.leaves n.0 (ap (λ (w : SeatSeen). w.note) c.enter-state.ensures.inside.3 ∙ n.1);
    })
