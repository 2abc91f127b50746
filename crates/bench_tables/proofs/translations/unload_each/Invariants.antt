use Rattle.std.proofs.Common.{◌≡◌}
use Rattle.bench_tables.proofs.translations.unload_each.Given as goal

abbrev pub invariant-loop-frame : goal.invariant-loop-frame
invariant-loop-frame l = l.hat.frames ≡ l.frames
