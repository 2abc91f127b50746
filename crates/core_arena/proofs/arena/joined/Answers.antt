use Rattle.core_arena.proofs.PageLemmas.{length, arith, ap, ◌∙◌, length-append, IsTakenOff, taken-off}
use Rattle.core_arena.proofs.arena.joined.Goals as goal
use Rattle.core_arena.proofs.arena.joined.Goals.{In_ok-page}

pub loop-page-init : goal.loop-page-init
loop-page-init c =
    let t = taken-off c.args.region.base c.args.pages.items c.pop.new.self.items c.in_ok-pop.field-0 c.in_ok-whole.whole c.requires c.in_ok-pop.ensures.items c.in_ok-whole.was in
    (t.rest, t.at, omega (arith, t.size, t.many))

-- the page behind which the whole goes on
page_off : (c : In_ok-page) → IsTakenOff c.args.region.base c.loop-page.pages.items c.pop-in-loop-page.new.self.items c.in_ok-page.field-0
page_off c =
    taken-off c.args.region.base c.loop-page.pages.items c.pop-in-loop-page.new.self.items c.in-Some.page c.in_ok-page.field-0 c.loop-page.invariant.0 c.in-Some.ensures.items c.in_ok-page.was

pub join-whole-requires : goal.join-whole-requires
join-whole-requires c = c.loop-page.invariant.1 ∙ (page_off c).behind

pub loop-page-preserved : goal.loop-page-preserved
loop-page-preserved c =
    let t = page_off ((goal.at.loop-page-preserved c).In_ok-page) in
    let size = ap length c.join-whole.ensures.1 ∙ length-append c.in_ok-page.field-0.bytes c.loop-page.whole.bytes in
    (t.rest, c.join-whole.ensures.0 ∙ t.at, omega (arith, size, t.size, t.many, c.loop-page.invariant.2))
