use Rattle.std.proofs.Common.{◌≡◌, ◌-◌, ◌≤◌, length, take, drop, vec_capacity}
use Rattle.anon_map.specs.Maps.{places_of}
use Rattle.anon_map.proofs.AnonMaps.cut_into.Given as goal

abbrev pub invariant-loop-place : goal.invariant-loop-place
invariant-loop-place l = record {
  later : l.later.items ≡ take (l.place - l.at) (drop l.at (places_of l.self l.map));
  room : length (places_of l.self l.map) - l.at ≤ vec_capacity l.later;
}
