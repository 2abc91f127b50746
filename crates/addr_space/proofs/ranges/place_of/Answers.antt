use Rattle.std.proofs.Common.{◌+◌, arith}
use Rattle.addr_space.proofs.SpanLemmas.{none-counted, count-within, last-below}
use Rattle.addr_space.proofs.ranges.place_of.Goals as goal

pub returns-in_err-place : goal.returns-in_err-place
returns-in_err-place c = grind (arith, none-counted 1 c.args.spans.now.items c.args.page c.requires)

pub index-span-requires : goal.index-span-requires
index-span-requires c = grind (arith, count-within (c.args.page + 1) c.args.spans.now.items)

pub overflow_sub-page : goal.overflow_sub-page
overflow_sub-page c =
    let last =
    last-below 1 c.args.spans.now.items c.args.page c.in_ok-place.place c.index-span.result.now c.requires in
    grind (arith, last)

pub returns-then-page-span : goal.returns-then-page-span
returns-then-page-span c =
    let last =
    last-below 1 c.args.spans.now.items c.args.page c.in_ok-place.place c.index-span.result.now c.requires in
    grind (arith, last)

pub returns-else-page-span : goal.returns-else-page-span
returns-else-page-span c =
    let last =
    last-below 1 c.args.spans.now.items c.args.page c.in_ok-place.place c.index-span.result.now c.requires in
    grind (arith, last)
