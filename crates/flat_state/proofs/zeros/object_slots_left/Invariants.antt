use Rattle.std.specs.Prelude.{◌≡◌, sum_by, length}
use Rattle.std.specs.BTreeMap.{values}
use Rattle.flat_state.specs.Mapped.{slots_left}
use Rattle.flat_state.proofs.zeros.object_slots_left.Given as goal

-- what is left after the zero objects so far, less the others, is what is left after all
abbrev pub invariant-loop-pages : goal.invariant-loop-pages
invariant-loop-pages l =
    (goal.iterator-loop-pages).can_next l.pages-iterator ×
    (goal.iterator-loop-pages).is_finite l.pages-iterator ×
    (slots_left l.left (sum_by length l.pages-iterator) ≡ slots_left l.slots (sum_by length (values l.zeros)))
