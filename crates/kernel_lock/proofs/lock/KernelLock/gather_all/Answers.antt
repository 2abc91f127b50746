use Rattle.std.proofs.Common.{rules, ◌≡◌, ◌++◌, map, false, ap, ◌∙◌}
use Rattle.kernel_lock.specs.Seats.{IsSeatOf, part_of}
use Rattle.kernel_lock.proofs.Begun.{popped, taken_over}
use Rattle.kernel_lock.proofs.lock.KernelLock.gather_all.Goals as goal

pub gather-requires-clause-seat : goal.gather-requires-clause-seat
gather-requires-clause-seat g c =
    (popped (λ it. IsSeatOf c.args.self.now it × (it.inside ≡ false)) c.loop-seat.seats.items c.pop.new.self.items c.in-Some.seat c.in-Some.ensures.items c.loop-seat.invariant.1).1.0

pub gather-requires-clause-outside : goal.gather-requires-clause-outside
gather-requires-clause-outside g c =
    (popped (λ it. IsSeatOf c.args.self.now it × (it.inside ≡ false)) c.loop-seat.seats.items c.pop.new.self.items c.in-Some.seat c.in-Some.ensures.items c.loop-seat.invariant.1).1.1

pub loop-seat-preserved : goal.loop-seat-preserved
loop-seat-preserved g c =
    let was = c.loop-seat.invariant in
    let items = c.in-Some.ensures.items in (
      search rules,
      (popped (λ it. IsSeatOf c.args.self.now it × (it.inside ≡ false)) c.loop-seat.seats.items c.pop.new.self.items c.in-Some.seat items was.1).0,
      ap (λ z. map part_of c.pop.new.self.items ++ z.parts) c.gather.ensures ∙ (taken_over part_of c.loop-seat.seats.items c.pop.new.self.items c.in-Some.seat c.loop-seat.from.parts items ∙ was.2),
    )
