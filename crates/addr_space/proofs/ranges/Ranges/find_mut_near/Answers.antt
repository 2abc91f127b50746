use Rattle.std.proofs.Common.{refl, arith}
use Rattle.std.proofs.Math.ListN.{length-set}
use Rattle.addr_space.proofs.PageLaws.{pages-written, ordered-written}
use Rattle.addr_space.proofs.SpanLemmas.{rising, none-part, some-part, counted-from, parts-of}
use Rattle.addr_space.proofs.Totals.{total-with_new_piece}
use Rattle.addr_space.proofs.ranges.Ranges.find_mut_near.Goals as goal

pub place_near-requires : goal.place_near-requires
place_near-requires g c = rising c.self.invariant.sound

pub returns-in_err-place : goal.returns-in_err-place
returns-in_err-place g c =
    let old = parts-of c.self.invariant.sound in
    let order = c.self.invariant.sound.ordered in
    rw (c.from_residual.ensures, ← c.self.view_is) (
      refl,
      record {
        writes_back = tt;
        found = none-part c.self.inside.spans.items c.self.inside.pieces.items c.args.page c.in_err-place.ensures;
        pages = pages-written old c.args.page order;
        ordered = ordered-written old c.args.page order;
      },
    )

pub invariant_of-self-lent : goal.invariant_of-self-lent
invariant_of-self-lent g c = λ r.
    let h = c.in_ok-place.ensures in
    let held = some-part c.self.invariant.sound c.args.page c.in_ok-place.place h.0 h.1 in
    let old = parts-of c.self.invariant.sound in
    let order = ordered-written old c.args.page c.self.invariant.sound.ordered in
    let total = λ (w : g.row.T.Denot). total-with_new_piece c.args.page w old in (
      (λ w. counted-from (grind (arith, length-set c.self.inside.pieces.items c.in_ok-place.place w))
          (held.2.written w) (order w) (grind (arith, total w))),
      c.self.invariant,
    )

pub returns : goal.returns
returns g c =
    let h = c.in_ok-place.ensures in
    let held = some-part c.self.invariant.sound c.args.page c.in_ok-place.place h.0 h.1 in
    let old = parts-of c.self.invariant.sound in
    let order = c.self.invariant.sound.ordered in
    rw (← c.self.view_is) (
      simp held.2.written,
      record {
        writes_back = tt;
        found = grind (arith, held.2.found, held.2.piece, c.get_mut.ensures.variant, c.get_mut.ensures.value);
        pages = pages-written old c.args.page order;
        ordered = ordered-written old c.args.page order;
      },
    )
