use Rattle.std.proofs.Common.{arith}
use Rattle.addr_space.proofs.SpanLemmas.{rising, next-found, next-none}
use Rattle.addr_space.proofs.ranges.Ranges.next.Goals as goal

pub count_below-place-requires : goal.count_below-place-requires
count_below-place-requires g c = rising c.self.invariant.sound

pub returns-then-place-len : goal.returns-then-place-len
returns-then-place-len g c =
    let place = c.count_below-place.result in
    let next =
    next-found c.self.invariant.sound c.args.page place c.index.result.now (cc) (omega arith) c.index.ensures in
    rw (← c.self.view_is) (record { first = next.0; least = next.1 })

pub returns-else-place-len : goal.returns-else-place-len
returns-else-place-len g c =
    let next = next-none c.self.invariant.sound c.args.page c.count_below-place.result (cc) (omega arith) in
    rw (← c.self.view_is) (record { first = next.0; least = next.1 })
