use Rattle.std.proofs.Common.{◌≡◌, ◌+◌}
use Rattle.mmap_calls.specs.GivenUp.{given_up}
use Rattle.mmap_calls.proofs.refusals.given_up.Given as goal

abbrev pub invariant-loop-number : goal.invariant-loop-number
invariant-loop-number g l = l.up ≡ given_up l.world.maps l.world.zeros l.space.parts l.map.first (l.map.first + l.map.pages) l.map.request.object l.number
