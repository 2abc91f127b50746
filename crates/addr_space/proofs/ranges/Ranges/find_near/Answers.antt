use Rattle.std.proofs.Common.{arith}
use Rattle.addr_space.proofs.SpanLemmas.{rising, none-part, held-part}
use Rattle.addr_space.proofs.ranges.Ranges.find_near.Goals as goal

pub place_near-requires : goal.place_near-requires
place_near-requires g c = rising c.self.invariant.sound

pub returns-in_err-place-clause-found : goal.returns-in_err-place-clause-found
returns-in_err-place-clause-found g c =
    grind (arith, none-part c.self.inside.spans.items c.self.inside.pieces.items c.args.page)

pub returns-clause-found : goal.returns-clause-found
returns-clause-found g c =
    let h = c.in_ok-place.ensures in
    let held =
    held-part c.self.invariant.sound c.args.page c.in_ok-place.place c.index-span.result.now h.0 h.1 in
    grind (arith, held c.index-span.ensures)

pub returns-clause-place : goal.returns-clause-place
returns-clause-place g c =
    let h = c.in_ok-place.ensures in
    let held =
    held-part c.self.invariant.sound c.args.page c.in_ok-place.place c.index-span.result.now h.0 h.1 c.index-span.ensures in
    grind (arith, held.1.at, held.1.found)
