use Rattle.std.proofs.Common.{arith}
use Rattle.seg_vn.specs.addr_space.Space.{part}
use Rattle.seg_vn.proofs.addr_space.PartLemmas.{found-in}
use Rattle.seg_vn.proofs.vm_world.Spots.{begun-there}
use Rattle.mmap_calls.proofs.PartsFrom.{last-ends, last-is}
use Rattle.mmap_calls.proofs.counts.last_piece.Goals as goal

pub unreachable-requires : goal.unreachable-requires
unreachable-requires c = begun-there c.args.space.now.parts c.in_ok-page.page c.in_default.ensures.ordered c.in_ok-page.ensures.1 c.in_default.ensures.found

pub overflow_add-first : goal.overflow_add-first
overflow_add-first c = let end = (found-in 1 c.args.space.now.parts c.in_ok-page.page (part c.in-Some.first c.in-Some.pages c.in-Some.segment.now) c.in-Some.ensures.ordered c.in-Some.ensures.found).within in omega (arith, end)

pub returns-then-first-pages : goal.returns-then-first-pages
returns-then-first-pages c =
    let x = part c.in-Some.first c.in-Some.pages c.in-Some.segment.now in
    let is = last-is c.args.space.now.parts c.args.below c.in_ok-page.page x c.in-Some.ensures.ordered c.in_ok-page.ensures c.in-Some.ensures.found in
    last-ends c.args.space.now.parts c.args.from c.args.below c.in-Some.first x c.in-Some.ensures.ordered is.0 is.1 c.if-first-pages.true

pub returns : goal.returns
returns c =
    let x = part c.in-Some.first c.in-Some.pages c.in-Some.segment.now in
    let is = last-is c.args.space.now.parts c.args.below c.in_ok-page.page x c.in-Some.ensures.ordered c.in_ok-page.ensures c.in-Some.ensures.found in
    (is.0, is.1, omega arith)
