use Rattle.std.proofs.Common.{◌≡◌, length}
use Rattle.bench_tables.proofs.frames.enter_each.Given as goal

abbrev pub invariant-loop-frame : goal.invariant-loop-frame
invariant-loop-frame l = length l.hash ≡ length l.initial.hash
