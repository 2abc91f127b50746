use Rattle.std.proofs.Common.{◌++◌, ◌∷◌, map, sym, ap, ◌∙◌, subst}
use Rattle.kernel_lock.specs.Seats.{IsSeatOf, part_of}
use Rattle.kernel_lock.proofs.Begun.{popped, taken_over}
use Rattle.vm_kernel.specs.Callers.{SeatSeen, IsCallerOf, caller_part}
use Rattle.vm_kernel.proofs.closing.gather_all.Goals as goal

pub gather-requires-clause-seat : goal.gather-requires-clause-seat
gather-requires-clause-seat g c =
    subst (λ (v : SeatSeen). IsSeatOf c.args.lock.now v) (sym c.into_seat.ensures.seat)
    (popped (λ it. IsCallerOf c.args.lock.now it) c.loop-caller.callers.items c.pop.new.self.items c.in-Some.caller c.in-Some.ensures.items c.loop-caller.invariant.1).1

pub loop-caller-preserved : goal.loop-caller-preserved
loop-caller-preserved g c =
    let was = c.loop-caller.invariant in
    let items = c.in-Some.ensures.items in (
      ap (λ z. z.lock) c.gather.ensures ∙ was.0,
      (popped (λ it. IsCallerOf c.args.lock.now it) c.loop-caller.callers.items c.pop.new.self.items c.in-Some.caller items was.1).0,
      ap (λ z. map caller_part c.pop.new.self.items ++ z.parts) c.gather.ensures ∙ ap (λ (v : SeatSeen). map caller_part c.pop.new.self.items ++ part_of v ∷ c.loop-caller.from.parts) c.into_seat.ensures.seat
          ∙ (taken_over caller_part c.loop-caller.callers.items c.pop.new.self.items c.in-Some.caller c.loop-caller.from.parts items ∙ was.2),
    )
