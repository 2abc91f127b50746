use Rattle.std.proofs.Common.{◌≡◌, false}
use Rattle.kernel_lock.specs.Seats.{IsSeatOf}
use Rattle.bench_tables.proofs.visits.visit_times.Given as goal

abbrev pub invariant-loop : goal.invariant-loop
invariant-loop g l = IsSeatOf l.lock l.seat × (l.seat.inside ≡ false) × (l.seat.number ≡ l.initial.seat.number)
