use Rattle.std.proofs.Common.{◌≡◌, Some}
use Rattle.test_lock.specs.Tally.{IsOutside}
use Rattle.test_lock.proofs.adders.hold_and_tell.Given as goal

abbrev pub invariant-loop : goal.invariant-loop
invariant-loop g l = IsOutside l.fn.lock l.seat × (l.seat.number ≡ l.initial.seat.number) × (l.seat.note ≡ Some l.fn.number)
