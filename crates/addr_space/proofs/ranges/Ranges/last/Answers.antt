use Rattle.std.proofs.Common.{arith}
use Rattle.addr_space.proofs.SpanLemmas.{rising, last-none, last-some, count-within}
use Rattle.addr_space.proofs.ranges.Ranges.last.Goals as goal

pub count_below-requires : goal.count_below-requires
count_below-requires g c = rising c.self.invariant.sound

pub returns-in_err-place : goal.returns-in_err-place
returns-in_err-place g c =
    grind (arith, last-none 1 c.self.inside.spans.items c.self.inside.pieces.items c.args.page)

pub index-requires : goal.index-requires
index-requires g c = grind (arith, count-within c.args.page c.self.inside.spans.items)

pub returns : goal.returns
returns g c =
    let last =
    last-some 1 c.self.inside.spans.items c.self.inside.pieces.items c.args.page c.in_ok-place.place in
    grind (arith, last c.index.result.now)
