use Rattle.std.proofs.Common.{◌≡◌, ap, ◌∙◌, ◌∷◌, arith}
use lib.ListN.{get_elem?}
use Rattle.kernel_lock.specs.Seats.{part_of}
use Rattle.bench_tables.proofs.visits.visit_all.Goals as goal

pub close_gathered-state-requires-clause-all : goal.close_gathered-state-requires-clause-all
close_gathered-state-requires-clause-all g c k lt =
    let seat = c.visit_times.new.seat in
    let parts = ap (λ z. z.parts) c.gather.ensures ∙ ap (λ z. part_of seat ∷ z.parts) c.gather_none-from.ensures in
    let one = c.in-Ok.ensures.lock.0 in
    let first : 0 ≡ k = omega (arith, lt, one) in
    (0, part_of seat, ap (λ l. get_elem? l 0) parts, (c.visit_times.ensures.number ∙ ap (λ v. v.number) c.only_seat-seat.ensures) ∙ first)
