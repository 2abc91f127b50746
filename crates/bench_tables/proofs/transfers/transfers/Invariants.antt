use Rattle.std.proofs.Common.{◌≤◌}
use Rattle.bench_tables.proofs.transfers.transfers.Given as goal

abbrev pub invariant-loop-turn : goal.invariant-loop-turn
invariant-loop-turn g l = 8 ≤ (g.D.Disk.seen l.disk).size
