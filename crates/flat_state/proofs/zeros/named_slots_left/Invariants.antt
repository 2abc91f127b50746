use Rattle.std.specs.Prelude.{◌≡◌, sum_by}
use Rattle.flat_state.specs.Mapped.{slots_left}
use Rattle.flat_state.proofs.Slots.{named_size}
use Rattle.flat_state.proofs.zeros.named_slots_left.Given as goal

-- what is left after the zero objects so far, less the others that are named, is what is left after all
abbrev pub invariant-loop-zero : goal.invariant-loop-zero
invariant-loop-zero l =
    (goal.iterator-loop-zero).can_next l.zero-iterator ×
    (goal.iterator-loop-zero).is_finite l.zero-iterator ×
    (slots_left l.left (sum_by (named_size l.spaces) l.zero-iterator) ≡ slots_left l.slots (sum_by (named_size l.spaces) l.zeros.entries))
