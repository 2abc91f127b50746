use Rattle.std.proofs.Common.{◌≡◌, ℕ, ◌+◌, ◌≤◌, ◌++◌, None, vec_len, vec_capacity, replicate}
use Rattle.anon_map.specs.Maps.{IsSoundAnonMaps}
use Rattle.anon_map.proofs.AnonMaps.reserve.Given as goal

abbrev pub invariant-loop-number : goal.invariant-loop-number
invariant-loop-number l = record {
  sound : IsSoundAnonMaps l.self-inside.maps.items l.self-inside.gone.items (vec_capacity l.self-inside.gone);
  more : (more : ℕ) × (l.self-inside.maps.items ≡ l.initial.self-inside.maps.items ++ replicate more None) × (l.number ≡ vec_len l.initial.self-inside.maps + more);
  count : vec_len l.self-inside.maps ≡ l.number;
  room : l.last ≤ vec_capacity l.self-inside.maps;
  names : l.last ≤ vec_capacity l.self-inside.gone;
}
