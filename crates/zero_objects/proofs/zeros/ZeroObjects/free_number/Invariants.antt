-- No number below has none: the least is the least of the rest.
use Rattle.std.proofs.Common.{◌≡◌, ℕ, ◌+◌, drop}
use Rattle.std.specs.Prelude.{option_map}
use Rattle.zero_objects.specs.ZeroNumbers.{free_number}
use Rattle.zero_objects.proofs.zeros.ZeroObjects.free_number.Given as goal

abbrev pub invariant-loop-number : goal.invariant-loop-number
invariant-loop-number l = free_number l.self ≡ option_map (λ (n : ℕ). l.number + n) (free_number (drop l.number l.self))
