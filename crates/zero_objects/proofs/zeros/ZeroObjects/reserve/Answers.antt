use Rattle.std.proofs.Common.{sym, subst}
use Rattle.std.specs.Prelude.{IsSome}
use Rattle.zero_objects.specs.ZeroNumbers.{free_number}
use Rattle.zero_objects.proofs.FreeNumbers.{free-pushed}
use Rattle.zero_objects.proofs.zeros.ZeroObjects.reserve.Goals as goal

pub returns-clause-free : goal.returns-clause-free
returns-clause-free c = subst (λ xs. IsSome (free_number xs)) (sym c.in_ok-push.ensures.items) (free-pushed c.self.inside.maps.items)
