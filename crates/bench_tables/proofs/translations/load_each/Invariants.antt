use Rattle.std.proofs.Common.{◌≡◌}
use Rattle.bench_tables.proofs.translations.load_each.Given as goal

abbrev pub invariant-loop-space : goal.invariant-loop-space
invariant-loop-space l = l.hat.frames ≡ l.frames
