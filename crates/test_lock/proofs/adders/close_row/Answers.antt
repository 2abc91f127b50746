use Rattle.std.proofs.Common.{◌≡◌, ap, sym, subst, ◌∙◌, map, arith, false}
use Rattle.std.specs.List.{All}
use mathlib.Core.Option.{some}
use lib.ListN.{get_elem?}
use Rattle.kernel_lock.specs.Seats.{HasAll, part_of, entries_by, IsSeatOf}
use Rattle.test_lock.specs.Tally.{seat_named, entries}
use Rattle.test_lock.proofs.Tallies.{all_two, has_two, out_two}
use Rattle.test_lock.proofs.adders.close_row.Goals as goal

pub close-requires-clause-seats : goal.close-requires-clause-seats
close-requires-clause-seats c =
    let r = c.requires.row in
    subst (All (λ it. IsSeatOf c.args.lock it × (it.inside ≡ false))) (sym r.2) (all_two (λ it. IsSeatOf c.args.lock it × (it.inside ≡ false)) r.0 r.1 r.3 r.4)

pub close-requires-clause-all : goal.close-requires-clause-all
close-requires-clause-all c =
    let r = c.requires.row in
    subst (λ l. HasAll c.args.lock.seats (map part_of l)) (sym r.2) (has_two (part_of r.0) (part_of r.1) c.args.lock.seats c.requires.count r.5 r.6)

pub returns-clause-sum : goal.returns-clause-sum
returns-clause-sum c a b is =
    let r = c.requires.row in
    let end = c.close.ensures.closed in
    let same = sym r.2 ∙ is in
    let first : r.0 ≡ a = cc same in
    let second : r.1 ≡ b = cc same in
    let x = subst (λ k. get_elem? end.notes k ≡ some a.note) (ap (λ v. v.number) (sym first) ∙ r.5) (end.holds 0 (part_of a) (ap (λ l. get_elem? (map part_of l) 0) is)).0 in
    let y = subst (λ k. get_elem? end.notes k ≡ some b.note) (ap (λ v. v.number) (sym second) ∙ r.6) (end.holds 1 (part_of b) (ap (λ l. get_elem? (map part_of l) 1) is)).0 in
    let all = out_two end.notes a.note b.note (end.whole ∙ c.requires.count) x y in
    let fits = end.fitting in
    omega (arith, all, fits)

pub returns-clause-own : goal.returns-clause-own
returns-clause-own c a b is =
    let r = c.requires.row in
    let end = c.close.ensures.closed in
    let same = sym r.2 ∙ is in
    let first : r.0 ≡ a = cc same in
    let second : r.1 ≡ b = cc same in (
      subst (λ k. entries_by seat_named k (entries c.close.result) ≡ a.own) (ap (λ v. v.number) (sym first) ∙ r.5) (end.holds 0 (part_of a) (ap (λ l. get_elem? (map part_of l) 0) is)).2,
      subst (λ k. entries_by seat_named k (entries c.close.result) ≡ b.own) (ap (λ v. v.number) (sym second) ∙ r.6) (end.holds 1 (part_of b) (ap (λ l. get_elem? (map part_of l) 1) is)).2,
    )
