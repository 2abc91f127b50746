use Rattle.std.proofs.Common.{◌≡◌, Some, arith}
use Rattle.addr_space.specs.Space.{part, begins, without_part}
use Rattle.addr_space.specs.Inside.{span_parts}
use Rattle.addr_space.proofs.SpanLemmas.{rising, removes, none-begins, without-absent, counted-from, parts-of}
use Rattle.addr_space.proofs.PartLemmas.{at-without_part, ordered-without_part}
use Rattle.addr_space.proofs.Totals.{total-without_part}
use Rattle.addr_space.proofs.ranges.Ranges.remove.Goals as goal

pub place_from-requires : goal.place_from-requires
place_from-requires g c = rising c.self.invariant.sound

pub returns-in_err-place : goal.returns-in_err-place
returns-in_err-place g c =
    let absent = none-begins c.self.invariant.sound c.args.page c.in_err-place.ensures in
    grind (arith, absent, without-absent c.args.self.now.parts c.args.page)

pub overflow_sub-self : goal.overflow_sub-self
overflow_sub-self g c =
    let old = parts-of c.self.invariant.sound in
    let gone = part c.remove-span.result.first c.remove-span.result.pages c.remove-piece.result in
    let away = removes c.self.inside.spans.items c.self.inside.pieces.items c.args.page c.in_ok-place.place in
    let away = away c.remove-span.result c.remove-piece.result in
    grind (arith, c.in_ok-place.ensures, away, total-without_part c.args.page old gone)

pub invariant_of-self : goal.invariant_of-self
invariant_of-self g c =
    let old = parts-of c.self.invariant.sound in
    let gone = part c.remove-span.result.first c.remove-span.result.pages c.remove-piece.result in
    let away = removes c.self.inside.spans.items c.self.inside.pieces.items c.args.page c.in_ok-place.place in
    let away = away c.remove-span.result c.remove-piece.result in
    counted-from (omega arith) (grind (arith, c.in_ok-place.ensures, away))
    (ordered-without_part 1 c.args.page old c.self.invariant.sound.ordered)
    (grind (arith, c.in_ok-place.ensures, away, total-without_part c.args.page old gone))

pub returns : goal.returns
returns g c =
    let old = parts-of c.self.invariant.sound in
    let gone = part c.remove-span.result.first c.remove-span.result.pages c.remove-piece.result in
    let away = removes c.self.inside.spans.items c.self.inside.pieces.items c.args.page c.in_ok-place.place in
    let is : begins old c.args.page ≡ Some gone =
    grind (arith, c.in_ok-place.ensures, away c.remove-span.result c.remove-piece.result) in
    let left : span_parts c.remove-span.new.self.items c.remove-piece.new.self.items ≡ without_part c.args.page old =
    grind (arith, c.in_ok-place.ensures, away c.remove-span.result c.remove-piece.result) in
    rw (← c.self.view_is) (record {
      taken = rw is;
      parts = left;
      pages = rw (is, left) (at-without_part 1 c.args.page old gone c.self.invariant.sound.ordered is);
      ordered = (invariant_of-self g c).sound.ordered;
      spare = omega arith;
    })
