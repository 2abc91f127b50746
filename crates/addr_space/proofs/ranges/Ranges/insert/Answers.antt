use Rattle.std.proofs.Common.{arith}
use Rattle.addr_space.specs.Space.{LiesFrom, part}
use Rattle.addr_space.proofs.SpanLemmas.{rising, count-within, put-at, counted-from, parts-of}
use Rattle.addr_space.proofs.PartLemmas.{at-put, ordered-put}
use Rattle.addr_space.proofs.Totals.{total-put, total-within}
use Rattle.addr_space.proofs.ranges.Ranges.insert.Goals as goal

pub count_below-place-requires : goal.count_below-place-requires
count_below-place-requires g c = rising c.self.invariant.sound

pub insert_within-requires-clause-within : goal.insert_within-requires-clause-within
insert_within-requires-clause-within g c = grind (arith, count-within c.args.page c.self.inside.spans.items)

pub insert_within-requires-2-clause-within : goal.insert_within-requires-2-clause-within
insert_within-requires-2-clause-within g c = grind (arith, count-within c.args.page c.self.inside.spans.items)

pub returns-clause-parts : goal.returns-clause-parts
returns-clause-parts g c =
    let new =
    put-at c.self.inside.spans.items c.self.inside.pieces.items c.args.page c.args.pages c.args.piece in
    grind (arith, new)

pub returns-clause-pages : goal.returns-clause-pages
returns-clause-pages g c =
    let new = part c.args.page c.args.pages c.args.piece in
    rw (returns-clause-parts g c) (at-put new c.args.self.now.parts c.requires.absent)

pub invariant_of-self : goal.invariant_of-self
invariant_of-self g c =
    let new = part c.args.page c.args.pages c.args.piece in
    let old = parts-of c.self.invariant.sound in
    let lies : LiesFrom 1 new =
    record { behind = c.requires.low; some = c.requires.some; within = c.requires.high } in
    let absent = rw (← c.self.view_is) at c.requires.absent in
    counted-from (omega arith) (rw (← c.self.view_is) at (returns-clause-parts g c))
    (ordered-put 1 new old c.self.invariant.sound.ordered lies absent) (grind (arith, total-put new old))

pub returns-clause-ordered : goal.returns-clause-ordered
returns-clause-ordered g c = (invariant_of-self g c).sound.ordered

pub overflow_add-self : goal.overflow_add-self
overflow_add-self g c =
    grind (arith, total-within 1 (parts-of c.self.invariant.sound) c.self.invariant.sound.ordered)
