use Rattle.std.proofs.Common.{◌≡◌, ℕ, ◌≤◌, length, vec_len, ap, sym, ◌∙◌, subst, arith}
use Rattle.std.specs.Prelude.{slice_index_or}
use Rattle.kernel_lock.specs.Seats.{newcomer}
use Rattle.vm_kernel.specs.Callers.{SeatSeen}
use Rattle.vm_kernel.specs.declared.starting.Room.{Room}
use Rattle.vm_kernel.proofs.Opened.{one-more, unused, popped-new, named-seat}
use Rattle.vm_kernel.proofs.starting.seat_callers.Goals as goal

pub caller_of-requires-clause-unused : goal.caller_of-requires-clause-unused
caller_of-requires-clause-unused g c =
    let n = popped-new c.args.lock.now c.loop-seat.seats.items c.pop.new.self.items c.in-Some.seat c.in-Some.ensures.items c.loop-seat.invariant.2 in
    let shorter = c.in-Some.ensures.cases in
    let all = c.loop-seat.invariant.0 in
    let few = c.requires.few in
    let len = c.pop.new.self.ok.0 in
    unused c.args.lock.now (length c.pop.new.self.items) c.in-Some.seat n.1 (omega (arith, shorter, all, few, len))

pub caller_of-requires-clause-named : goal.caller_of-requires-clause-named
caller_of-requires-clause-named g c =
    let n = popped-new c.args.lock.now c.loop-seat.seats.items c.pop.new.self.items c.in-Some.seat c.in-Some.ensures.items c.loop-seat.invariant.2 in
    let shorter = c.in-Some.ensures.cases in
    let all = c.loop-seat.invariant.0 in
    let at = c.len.ensures in
    let none : Room = record { process = 0; entries = 0 } in
    named-seat (slice_index_or c.args.rooms.now c.len.result none).process c.len.result c.in-Some.seat.number (c.requires.named c.len.result none (omega (arith, shorter, all, at)))
    (ap (λ (v : SeatSeen). v.number) n.1 ∙ sym c.pop.new.self.ok.0 ∙ sym at)

pub loop-seat-preserved : goal.loop-seat-preserved
loop-seat-preserved g c =
    let l = c.args.lock.now in
    let rooms = c.args.rooms.now in
    let left = vec_len c.pop.new.self in
    let n = popped-new l c.loop-seat.seats.items c.pop.new.self.items c.in-Some.seat c.in-Some.ensures.items c.loop-seat.invariant.2 in
    let shorter = c.in-Some.ensures.cases in
    let all = c.loop-seat.invariant.0 in
    let longer = c.push_reserved.ensures.len in
    let none : Room = record { process = 0; entries = 0 } in
    let seat : c.in-Some.seat ≡ newcomer l left = subst (λ (k : ℕ). c.in-Some.seat ≡ newcomer l k) (sym c.pop.new.self.ok.0) n.1 in
    let caller : c.caller_of.result ≡ record { seat = newcomer l left; process = (slice_index_or rooms left none).process } =
    c.caller_of.ensures ∙ (λ i. record { seat = seat i; process = (slice_index_or rooms (c.len.ensures i) none).process }) in (
      omega (arith, shorter, all, longer),
      subst (λ (k : ℕ). length rooms ≤ k) (sym c.push_reserved.ensures.capacity) c.loop-seat.invariant.1,
      n.0,
      c.push_reserved.ensures.items
          ∙ one-more l rooms left (vec_len c.loop-seat.seats) none c.caller_of.result c.loop-seat.row.items shorter (omega (arith, shorter, all)) caller c.loop-seat.invariant.3,
    )
