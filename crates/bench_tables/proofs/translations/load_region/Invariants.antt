use Rattle.std.proofs.Common.{◌≡◌}
use Rattle.bench_tables.proofs.translations.load_region.Given as goal

abbrev pub invariant-loop-place : goal.invariant-loop-place
invariant-loop-place l = l.hat.frames ≡ l.frames
