use Rattle.std.proofs.Common.{◌≡◌, true, false, refl, ap, sym, ◌∙◌, arith}
use Rattle.seg_vn.specs.addr_space.Space.{Part, part}
use Rattle.seg_vn.specs.vm_world.declared.segment.Segment.{Segment}
use Rattle.mmap_calls.specs.Protections.{lets}
use Rattle.mmap_calls.proofs.RangeProtections.{Holds, all-so-far, has-part, holds}
use Rattle.mmap_calls.proofs.protects.may_have.Goals as goal
use Rattle.mmap_calls.proofs.protects.may_have.Goals.{In-Some}

abbrev here : (c : In-Some) → Part Segment
here c = part c.in-Some.begin c.in-Some.pages c.in-Some.segment.now

held : (c : In-Some) → Holds c.args.space.now.parts c.in-Some.ensures.ordered c.loop-page.page (part c.in-Some.begin c.in-Some.pages c.in-Some.segment.now) c.in-Some.ensures.found
held c = holds c.args.space.now.parts c.in-Some.ensures.ordered c.loop-page.page (part c.in-Some.begin c.in-Some.pages c.in-Some.segment.now) c.in-Some.ensures.found

pub overflow_add-page : goal.overflow_add-page
overflow_add-page c = let end = (held (goal.at.overflow_add-page c).In-Some).within in omega (arith, end)

pub loop-page-preserved : goal.loop-page-preserved
loop-page-preserved c =
    let d = (goal.at.loop-page-preserved c).In-Some in
    let h = held d in
    record {
      low = let low = c.loop-page.invariant.low in let below = h.below in omega (arith, low, below);
      each = all-so-far c.args.space.now.parts c.in-Some.ensures.ordered c.loop-page.page (here d) c.in-Some.ensures.found (lets c.args.prot) c.args.first c.loop-page.invariant.each (sym c.check_prot.ensures ∙ c.if-not-check_prot.false);
    }

pub loop-page-smaller : goal.loop-page-smaller
loop-page-smaller c = let below = (held (goal.at.loop-page-smaller c).In-Some).below in let test = c.loop-page-test.true in omega (arith, below, test)

pub unreachable-requires : goal.unreachable-requires
unreachable-requires c = has-part c.args.space.now.parts c.loop-page.page (c.requires.mapped c.loop-page.page c.loop-page.invariant.low c.loop-page-test.true) c.in_default.ensures.found

pub returns-then-not-check_prot : goal.returns-then-not-check_prot
returns-then-not-check_prot c =
    let d = (goal.at.returns-then-not-check_prot c).In-Some in
    let h = held d in (
      (λ t. absurd (let z : false ≡ true = t in cc)),
      (λ all. absurd (
          let low = c.loop-page.invariant.low in
          let may = all c.loop-page.page low c.loop-page-test.true in
          let most = h.most c.loop-page.page h.from h.below in
          let z : true ≡ false = sym may ∙ ap (lets c.args.prot) most ∙ sym c.check_prot.ensures ∙ c.if-not-check_prot.true in cc)),
    )

pub returns : goal.returns
returns c = ((λ h. λ q low high. c.loop-page.invariant.each q low (let test = c.loop-page-test.false in omega (arith, test, high))), (λ all. refl))
