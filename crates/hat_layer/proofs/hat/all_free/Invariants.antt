use Rattle.std.proofs.Common.{◌≡◌, ◌≤◌, ◌++◌}
use Rattle.std.specs.Prelude.{vec_capacity}
use Rattle.hat_layer.specs.Free.{countdown}
use Rattle.hat_layer.proofs.hat.all_free.Given as goal

abbrev pub invariant-loop-place : goal.invariant-loop-place
invariant-loop-place l = record {
  same : l.free.items ++ countdown l.place ≡ countdown l.pool;
  room : l.pool ≤ vec_capacity l.free;
}
