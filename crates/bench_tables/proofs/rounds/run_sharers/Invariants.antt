use Rattle.std.proofs.Common.{◌≡◌}
use Rattle.bench_tables.proofs.rounds.run_sharers.Given as goal

abbrev pub invariant-loop : goal.invariant-loop
invariant-loop l = l.hat.frames ≡ l.frames
