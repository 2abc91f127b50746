use Rattle.std.proofs.Common.{ap, sym, subst, ◌∙◌, ◌∷◌}
use Rattle.kernel_lock.specs.Seats.{HasAll, part_of}
use Rattle.test_lock.proofs.Tallies.{has_two}
use Rattle.test_lock.proofs.store.close_store.Goals as goal

pub close_gathered-requires-clause-all : goal.close_gathered-requires-clause-all
close_gathered-requires-clause-all g c =
    let parts = ap (λ z. z.parts) c.gather-2.ensures ∙ ap (λ z. part_of c.args.first ∷ z) (ap (λ z. z.parts) c.gather.ensures ∙ ap (λ z. part_of c.args.second ∷ z.parts) c.gather_none-from.ensures) in
    let n = c.requires.numbers in
    subst (HasAll c.args.lock.seats) (sym parts) (has_two (part_of c.args.first) (part_of c.args.second) c.args.lock.seats c.requires.count n.0 n.1)
