use Rattle.std.proofs.Common.{◌≡◌}
use Rattle.bench_tables.proofs.translations.load_space.Given as goal

abbrev pub invariant-loop-region : goal.invariant-loop-region
invariant-loop-region l = l.hat.frames ≡ l.frames
