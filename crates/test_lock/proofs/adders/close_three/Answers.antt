use Rattle.std.proofs.Common.{◌≡◌, ap, sym, subst, ◌∙◌, ◌∷◌, arith}
use mathlib.Core.Option.{some}
use lib.ListN.{get_elem?}
use Rattle.kernel_lock.specs.Seats.{HasAll, part_of, entries_by}
use Rattle.test_lock.specs.Tally.{seat_named, entries}
use Rattle.test_lock.proofs.Tallies.{has_three, out_three}
use Rattle.test_lock.proofs.adders.close_three.Goals as goal

pub close_gathered-requires-clause-all : goal.close_gathered-requires-clause-all
close_gathered-requires-clause-all c =
    let parts = ap (λ z. z.parts) c.gather-3.ensures ∙ ap (λ z. part_of c.args.first ∷ z) (ap (λ z. z.parts) c.gather-2.ensures
    ∙ ap (λ z. part_of c.args.second ∷ z) (ap (λ z. z.parts) c.gather.ensures ∙ ap (λ z. part_of c.args.third ∷ z.parts) c.gather_none-from.ensures)) in
    let n = c.requires.numbers in
    subst (HasAll c.args.lock.seats) (sym parts) (has_three (part_of c.args.first) (part_of c.args.second) (part_of c.args.third) c.args.lock.seats c.requires.count n.0 n.1 n.2)

pub returns-clause-sum : goal.returns-clause-sum
returns-clause-sum c =
    let parts = ap (λ z. z.parts) c.gather-3.ensures ∙ ap (λ z. part_of c.args.first ∷ z) (ap (λ z. z.parts) c.gather-2.ensures
    ∙ ap (λ z. part_of c.args.second ∷ z) (ap (λ z. z.parts) c.gather.ensures ∙ ap (λ z. part_of c.args.third ∷ z.parts) c.gather_none-from.ensures)) in
    let end = c.close_gathered.ensures.closed in
    let n = c.requires.numbers in
    let a = subst (λ k. get_elem? end.notes k ≡ some c.args.first.note) n.0 (end.holds 0 (part_of c.args.first) (ap (λ l. get_elem? l 0) parts)).0 in
    let b = subst (λ k. get_elem? end.notes k ≡ some c.args.second.note) n.1 (end.holds 1 (part_of c.args.second) (ap (λ l. get_elem? l 1) parts)).0 in
    let d = subst (λ k. get_elem? end.notes k ≡ some c.args.third.note) n.2 (end.holds 2 (part_of c.args.third) (ap (λ l. get_elem? l 2) parts)).0 in
    let all = out_three end.notes c.args.first.note c.args.second.note c.args.third.note (end.whole ∙ c.requires.count) a b d in
    let fits = end.fitting in
    omega (arith, all, fits)

pub returns-clause-own : goal.returns-clause-own
returns-clause-own c =
    let parts = ap (λ z. z.parts) c.gather-3.ensures ∙ ap (λ z. part_of c.args.first ∷ z) (ap (λ z. z.parts) c.gather-2.ensures
    ∙ ap (λ z. part_of c.args.second ∷ z) (ap (λ z. z.parts) c.gather.ensures ∙ ap (λ z. part_of c.args.third ∷ z.parts) c.gather_none-from.ensures)) in
    let end = c.close_gathered.ensures.closed in
    let n = c.requires.numbers in (
      subst (λ k. entries_by seat_named k (entries c.close_gathered.result) ≡ c.args.first.own) n.0 (end.holds 0 (part_of c.args.first) (ap (λ l. get_elem? l 0) parts)).2,
      subst (λ k. entries_by seat_named k (entries c.close_gathered.result) ≡ c.args.second.own) n.1 (end.holds 1 (part_of c.args.second) (ap (λ l. get_elem? l 1) parts)).2,
      subst (λ k. entries_by seat_named k (entries c.close_gathered.result) ≡ c.args.third.own) n.2 (end.holds 2 (part_of c.args.third) (ap (λ l. get_elem? l 2) parts)).2,
    )
