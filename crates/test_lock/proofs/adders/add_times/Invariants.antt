use Rattle.std.proofs.Common.{◌≡◌, None}
use Rattle.test_lock.specs.Tally.{IsOutside}
use Rattle.test_lock.proofs.adders.add_times.Given as goal

abbrev pub invariant-loop : goal.invariant-loop
invariant-loop g l = IsOutside l.fn.lock l.seat × (l.seat.number ≡ l.initial.seat.number) × (l.seat.note ≡ None)
