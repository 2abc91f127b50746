use Rattle.std.proofs.Common.{◌≡◌, ◌<◌, arith}
use Rattle.addr_space.specs.Space.{part, cut_at}
use Rattle.addr_space.specs.Inside.{span_parts}
use Rattle.addr_space.proofs.SpanLemmas.{rising, none-part, held-part, counted-from, parts-of}
use Rattle.addr_space.proofs.PartLemmas.{at-cut, ordered-cut}
use Rattle.addr_space.proofs.Totals.{total-cut}
use Rattle.addr_space.proofs.ranges.Ranges.split_at.Goals as goal

pub place_of-requires : goal.place_of-requires
place_of-requires g c = rising c.self.invariant.sound

pub unreachable-requires : goal.unreachable-requires
unreachable-requires g c =
    let none =
    none-part c.self.inside.spans.items c.self.inside.pieces.items c.args.page c.in_default.ensures in
    grind (arith, c.requires.across, none)

pub overflow_sub-below : goal.overflow_sub-below
overflow_sub-below g c =
    let h = c.in-Some.ensures in
    let held =
    held-part c.self.invariant.sound c.args.page c.in-Some.place c.index.result.now h.0 h.1 c.index.ensures in
    omega (arith, held.1)

pub overflow_sub-pages : goal.overflow_sub-pages
overflow_sub-pages g c =
    let h = c.in-Some.ensures in
    let held =
    held-part c.self.invariant.sound c.args.page c.in-Some.place c.index.result.now h.0 h.1 c.index.ensures in
    omega (arith, held.1)

pub invariant_of-self : goal.invariant_of-self
invariant_of-self g c =
    let h = c.in-Some.ensures in
    let held =
    held-part c.self.invariant.sound c.args.page c.in-Some.place c.index.result.now h.0 h.1 c.index.ensures in
    let old = parts-of c.self.invariant.sound in
    let whole = part c.index.result.now.first c.index.result.now.pages held.0 in
    let below : c.index.result.now.first < c.args.page = grind (arith, c.requires.across, held.1.found) in
    let order =
    ordered-cut 1 c.args.page c.args.upper old whole c.self.invariant.sound.ordered held.1.found below in
    let total = total-cut c.args.page c.args.upper old in
    counted-from (omega arith) (grind (arith, held.1.cut c.args.upper)) order (grind (arith, total))

pub returns : goal.returns
returns g c =
    let h = c.in-Some.ensures in
    let held =
    held-part c.self.invariant.sound c.args.page c.in-Some.place c.index.result.now h.0 h.1 c.index.ensures in
    let old = parts-of c.self.invariant.sound in
    let whole = part c.index.result.now.first c.index.result.now.pages held.0 in
    let below : c.index.result.now.first < c.args.page = grind (arith, c.requires.across, held.1.found) in
    let cut : span_parts c.insert_within.new.items.items c.insert_within-2.new.items.items
    ≡ cut_at c.args.page c.args.upper old = grind (arith, held.1.cut c.args.upper) in
    let pages = at-cut 1 c.args.page c.args.upper old whole c.self.invariant.sound.ordered held.1.found below in
    rw (← c.self.view_is) (record {
      parts = cut;
      pages = rw (held.1.found, cut) pages;
      ordered = (invariant_of-self g c).sound.ordered;
      spare = grind arith;
    })
