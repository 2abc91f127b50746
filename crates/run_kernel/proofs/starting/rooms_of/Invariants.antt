use Rattle.std.proofs.Common.{◌≡◌, ◌+◌, ◌≤◌, ◌++◌, drop, length}
use Rattle.std.specs.Prelude.{vec_capacity}
use Rattle.run_kernel.specs.Played.{rooms_from}
use Rattle.run_kernel.proofs.starting.rooms_of.Given as goal

abbrev pub invariant-loop-place : goal.invariant-loop-place
invariant-loop-place l = record {
  made : l.rooms.items ++ rooms_from l.place (drop l.place l.entries) ≡ rooms_from 0 l.entries;
  count : length l.rooms.items ≡ l.place;
  room : length l.entries + 1 ≤ vec_capacity l.rooms;
}
